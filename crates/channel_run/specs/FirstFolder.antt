-- Which folders are of the first form.
use Rattle.std.specs.Prelude.{ℕ, ◌&&◌, List, [], ◌∷◌, codes, Option, None, Some, option_and_then, if◌then◌else◌}
use Rattle.std.specs.Str.{bytes_eq}
use Rattle.outside.specs.declared.files.FileBytes.{FileBytes}
use Rattle.first_form.specs.declared.tree.FirstMain.{FirstMain}
use Rattle.first_form.specs.FirstSource.{first_main_of}

-- what Main's file holds, where the files are a manifest and this one
abbrev pub first_source : List FileBytes → Option (List ℕ)
first_source (manifest ∷ source ∷ []) =
    if bytes_eq manifest.path (codes "manifest") && bytes_eq source.path (codes "source/main.brs") then Some source.bytes else None
first_source files = None

-- the tree of the Main of a folder of the first form
abbrev pub first_folder : List FileBytes → Option FirstMain
first_folder files = option_and_then first_main_of (first_source files)
