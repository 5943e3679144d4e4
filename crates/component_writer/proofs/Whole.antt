-- Files that were read can be written, and their spelling is read as the same file.
use Rattle.std.proofs.Common.{ℕ, List, refl, subst, ◌∙◌}
use Rattle.std.specs.List.{flat_map}
use Rattle.xml_pieces.specs.Written.{spelled}
use Rattle.component_files.specs.declared.element.ComponentFile.{ComponentFile}
use Rattle.component_files.specs.ComponentGrammar.{IsComponent}
use Rattle.component_writer.specs.Aside.{ReadsAs, CanBeRead}
use Rattle.component_writer.specs.Spelling.{file_pieces}
use Rattle.component_writer.proofs.AsideLemmas.{one_spelling}
use Rattle.component_writer.proofs.Derived.{component_good}
use Rattle.component_writer.proofs.Again.{reads_again}

pub was_read : (bytes : List ℕ) (file : ComponentFile) → IsComponent bytes file → CanBeRead file
was_read bytes file h = record { bytes = bytes; reads = record { read = file; component = h; same = refl } }

pub spelling_is_read : (file : ComponentFile) → CanBeRead file → ReadsAs (flat_map spelled (file_pieces file)) file
spelling_is_read file h =
    let read : ComponentFile = h.reads.read in
    let again : ReadsAs (flat_map spelled (file_pieces read)) read = reads_again read (component_good h.bytes read h.reads.component) in
    let moved : ReadsAs (flat_map spelled (file_pieces file)) read = subst (λ ws. ReadsAs (flat_map spelled ws) read) (one_spelling read file h.reads.same) again in
    record { read = moved.read; component = moved.component; same = moved.same ∙ h.reads.same }
