use Rattle.component_files.specs.ComponentGrammar.{start_of_file, text_of_file}
use Rattle.component_files.proofs.Answering.{answers_file, answers_fault, answers_all, answers_first, finds_in_file}
use Rattle.component_files.proofs.read.read_component.Goals as goal

pub returns-clause-file : goal.returns-clause-file
returns-clause-file c =
    let b = c.args.bytes.now in
    answers_file (start_of_file b) (text_of_file b) c.scan.result (finds_in_file b c.text_of.result.1.now c.text_of.result.0 c.scan.result c.text_of.ensures.place c.text_of.ensures.text c.scan.ensures)

pub returns-clause-fault : goal.returns-clause-fault
returns-clause-fault c n is =
    let b = c.args.bytes.now in
    answers_fault (start_of_file b) (text_of_file b) c.scan.result n (finds_in_file b c.text_of.result.1.now c.text_of.result.0 c.scan.result c.text_of.ensures.place c.text_of.ensures.text c.scan.ensures) is

pub returns-clause-all : goal.returns-clause-all
returns-clause-all c f is =
    let b = c.args.bytes.now in
    answers_all (start_of_file b) (text_of_file b) c.scan.result f (finds_in_file b c.text_of.result.1.now c.text_of.result.0 c.scan.result c.text_of.ensures.place c.text_of.ensures.text c.scan.ensures) is

pub returns-clause-first : goal.returns-clause-first
returns-clause-first c n is =
    let b = c.args.bytes.now in
    answers_first (start_of_file b) (text_of_file b) c.scan.result n (finds_in_file b c.text_of.result.1.now c.text_of.result.0 c.scan.result c.text_of.ensures.place c.text_of.ensures.text c.scan.ensures) is
