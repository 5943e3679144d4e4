-- All static faults of a source file: where the rows of the table apply.
use Rattle.std.specs.Prelude.{Bool, true, false, List, [], ◌∷◌, ◌++◌}
use Rattle.brs_tokens.specs.declared.place.Place.{Place}
use Rattle.brs_grammar.specs.declared.tree.NamedFunction.{NamedFunction}
use Rattle.brs_grammar.specs.Form as p
use Rattle.brs_grammar.specs.Form.{Text, Head, Form, Node, Forms, none, more, Params, unnamed, required, optional, Aim, Doing, Todo, finish, first}
use Rattle.brs_grammar.specs.View.{Named, named_of}
use Rattle.static_faults.specs.declared.fault.StaticFault.{StaticFault}
use Rattle.static_faults.specs.declared.fault.Surroundings.{Surroundings}
use Rattle.static_faults.specs.Table.{exit_faults, parameter_faults, function_faults, variable_faults, returned_value_faults, gives_value}

-- no loop of another function stands round what is in a function
abbrev pub inside : Bool → Surroundings
inside gives = record { in_for = false; in_while = false; gives_value = gives }

-- a member or an index isn't a name
abbrev pub aim_faults : Aim → Place → List StaticFault
aim_faults (p.ToName x) at = variable_faults x at
aim_faults (p.ToMember k) at = []
aim_faults p.ToIndex at = []

abbrev pub return_faults : Surroundings → Place → Forms → List StaticFault
return_faults s at none = []
return_faults s at (more value rest) = returned_value_faults s at

abbrev mutual
  pub head_faults : Head → List StaticFault
  head_faults (p.Anonymous kind ps type body) = params_faults [] ps ++ todo_faults (inside (gives_value kind type)) body
  head_faults _ = []

  pub form_faults : Form → List StaticFault
  form_faults (Node h at fs) = forms_faults fs ++ head_faults h

  pub forms_faults : Forms → List StaticFault
  forms_faults none = []
  forms_faults (more f fs) = form_faults f ++ forms_faults fs

  -- the names of the parameters before these are given
  pub params_faults : List Text → Params → List StaticFault
  params_faults before unnamed = []
  params_faults before (required at x type ps) = parameter_faults before x at ++ params_faults (before ++ x ∷ []) ps
  params_faults before (optional at x type e ps) = (parameter_faults before x at ++ form_faults e) ++ params_faults (before ++ x ∷ []) ps

  -- of a statement with these operands, without those of its operands
  pub doing_faults : Surroundings → Doing → Place → Forms → List StaticFault
  doing_faults s (p.Set aim) at fs = aim_faults aim at
  doing_faults s (p.Update aim sign there e) at fs = aim_faults aim at ++ form_faults e
  doing_faults s p.Drop at fs = []
  doing_faults s (p.Print marks) at fs = []
  doing_faults s p.Return at fs = return_faults s at fs
  doing_faults s (p.Exit kind) at fs = exit_faults s kind at
  doing_faults s (p.If a b) at fs = todo_faults s a ++ todo_faults s b
  doing_faults s (p.While c body) at fs = form_faults c ++ todo_faults (record s { in_while = true }) body
  doing_faults s (p.For there x body) at fs = variable_faults x there ++ todo_faults (record s { in_for = true }) body
  doing_faults s (p.ForEach there x body) at fs = variable_faults x there ++ todo_faults (record s { in_for = true }) body

  pub todo_faults : Surroundings → Todo → List StaticFault
  todo_faults s finish = []
  todo_faults s (first d at fs rest) = (forms_faults fs ++ doing_faults s d at fs) ++ todo_faults s rest

-- of a named function, with the names of the functions before it in the file
abbrev pub named_faults : List Text → Named → List StaticFault
named_faults before f =
    function_faults before f.name f.name_place
    ++ (params_faults [] f.callee.params ++ todo_faults (inside (gives_value f.kind f.callee.value)) f.callee.body)

abbrev pub functions_faults : List Text → List NamedFunction → List StaticFault
functions_faults before [] = []
functions_faults before (f ∷ fs) = named_faults before (named_of f) ++ functions_faults (before ++ (named_of f).name ∷ []) fs

-- all static faults of a file
abbrev pub faults : List NamedFunction → List StaticFault
faults fs = functions_faults [] fs
