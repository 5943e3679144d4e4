use Rattle.std.proofs.Common.{codes, Some}
use Rattle.script_text.proofs.LinesLemmas.{strips_end_is, key_line, key_line_of}
use Rattle.script_text.proofs.read.read_key_line.Goals as goal

pub returns-in-Some-clause-says : goal.returns-in-Some-clause-says
returns-in-Some-clause-says c =
    key_line c.args.rest.now c.in-Some.text.now (codes " press") c.read_press.result
    (strips_end_is c.args.rest.now (codes " press") (Some c.in-Some.text) c.in-Some.ensures.cases) c.read_press.ensures.says

pub returns-in-Some-clause-found : goal.returns-in-Some-clause-found
returns-in-Some-clause-found c event says =
    let is = strips_end_is c.args.rest.now (codes " press") (Some c.in-Some.text) c.in-Some.ensures.cases in
    c.read_press.ensures.found event (key_line_of c.args.rest.now c.in-Some.text.now (codes " press") event is says)

pub returns-in-Some-strip_suffix-clause-says : goal.returns-in-Some-strip_suffix-clause-says
returns-in-Some-strip_suffix-clause-says c =
    key_line c.args.rest.now c.in-Some-strip_suffix.text.now (codes " release") c.read_press-in-Some-strip_suffix.result
    (strips_end_is c.args.rest.now (codes " release") (Some c.in-Some-strip_suffix.text) c.in-Some-strip_suffix.ensures.cases)
    c.read_press-in-Some-strip_suffix.ensures.says
