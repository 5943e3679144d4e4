-- The made channel of a size: its files, and its script.
use Rattle.std.specs.Prelude.{ℕ, ◌+◌, ◌-◌, ◌==◌, List, [], ◌∷◌, ◌++◌, codes, decimal, fold, flat_map, if◌then◌else◌}
use Rattle.std.specs.List.{range_with_len}
use Rattle.outside.specs.declared.files.FileBytes.{FileBytes}
use Rattle.outside.specs.Folder.{appended}

-- the numbers from 1 to this one
abbrev pub numbers_to : ℕ → List ℕ
numbers_to size = range_with_len 1 size

abbrev pub manifest : FileBytes
manifest = record { path = codes "manifest"; bytes = codes "title=gen\n" }

-- the function of a number, which adds that number n times
abbrev pub function_text : ℕ → List ℕ
function_text k =
    codes "function f" ++ (decimal k ++ (codes "(n as integer) as integer\nt = 0\nfor i = 1 to n\nt = t + i * "
    ++ (decimal k ++ codes "\nnext\nreturn t\nend function\n")))

abbrev pub function_file : ℕ → FileBytes
function_file k = record { path = codes "source/f" ++ (decimal k ++ codes ".brs"); bytes = function_text k }

-- the first component extends a scene, and each other the component before it
abbrev pub base_name : ℕ → List ℕ
base_name k = if k == 1 then codes "Scene" else codes "C" ++ decimal (k - 1)

abbrev pub component_text : ℕ → List ℕ
component_text k =
    codes "<component name=\"C" ++ (decimal k ++ (codes "\" extends=\"" ++ (base_name k
    ++ (codes "\"><interface><field id=\"v" ++ (decimal k ++ codes "\" type=\"integer\"/></interface></component>\n")))))

abbrev pub component_file : ℕ → FileBytes
component_file k = record { path = codes "components/c" ++ (decimal k ++ codes ".xml"); bytes = component_text k }

-- what main does with a number: it calls its function, sets its field and adds to the sum
abbrev pub call_text : ℕ → List ℕ
call_text k =
    codes "y = f" ++ (decimal k ++ (codes "(10)\nscene.v" ++ (decimal k ++ codes " = y\nx = x + y\n")))

abbrev pub main_text : ℕ → List ℕ
main_text size =
    codes "sub main()\nscene = createObject(\"roSGScreen\").createScene(\"C" ++ (decimal size ++ codes "\")\nx = 0\n")
    ++ flat_map call_text (numbers_to size) ++ codes "print x\nend sub\n"

abbrev pub main_file : ℕ → FileBytes
main_file size = record { path = codes "source/main.brs"; bytes = main_text size }

abbrev pub files_of : ℕ → List FileBytes
files_of k = function_file k ∷ component_file k ∷ []

-- one file more, at its place by the bytes of its path
abbrev pub with_file : List FileBytes → FileBytes → List FileBytes
with_file files file = appended file.path file.bytes files

-- the folder: the manifest, for each number its function and its component, and main
abbrev pub made_files : ℕ → List FileBytes
made_files size = fold with_file [] (manifest ∷ (flat_map files_of (numbers_to size) ++ main_file size ∷ []))

-- the script: two rounds more than the size
abbrev pub made_script : ℕ → List ℕ
made_script size = flat_map (λ k. codes "round 4000\n") (numbers_to (size + 2))
