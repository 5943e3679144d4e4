-- What the pieces of a component file lead to, piece by piece.
use Rattle.std.specs.Prelude.{ℕ, Bool, true, false, ◌&&◌, nat_lt, if◌then◌else◌, List, [], ◌∷◌, ◌++◌, length, codes, Some, None, Option}
use Rattle.xml_pieces.specs.declared.piece.Tag.{Tag}
use Rattle.xml_pieces.specs.declared.piece.Piece.{Piece}
use Rattle.xml_pieces.specs.declared.piece.Piece.TheVariants as piece
use Rattle.xml_pieces.specs.Reading.{bind}
use Rattle.component_files.specs.declared.place.Place.{Place}
use Rattle.component_files.specs.declared.element.ComponentFile.{ComponentFile}
use Rattle.component_files.specs.declared.element.InlineScript.{InlineScript}
use Rattle.component_files.specs.declared.element.ScriptElement.{ScriptElement}
use Rattle.component_files.specs.declared.element.ChildElement.{ChildElement}
use Rattle.component_files.specs.declared.stack.OpenChild.{OpenChild}
use Rattle.component_files.specs.declared.state.MemberKind.{MemberKind}
use Rattle.component_files.specs.declared.state.MemberKind.TheVariants as kind
use Rattle.component_files.specs.declared.state.State.{State}
use Rattle.component_files.specs.declared.state.State.TheVariants as state
use Rattle.component_files.specs.declared.state.Progress.{Progress}
use Rattle.component_files.specs.declared.state.Progress.TheVariants.{Start, Inside}
use Rattle.component_files.specs.Elements.{same, alike, header, field, function, script, is_whole, are_unlike, opening_child, child}

abbrev pub member_name : MemberKind → List ℕ
member_name kind.Field = codes "field"
member_name kind.Function = codes "function"

-- the parts of a component, by their tags' names
unfoldable pub opened_part : ComponentFile → Tag → Place → Option State
opened_part f t place =
    if same t.name (codes "interface") then Some (state.Interface f)
    else if same t.name (codes "script") then Some (state.Script f (script t place))
    else if same t.name (codes "children") then Some (state.Children f [])
    else None

-- the members of an interface
unfoldable pub opened_member : ComponentFile → Tag → Place → Option State
opened_member f t place =
    if same t.name (codes "field") then bind (field t place) (λ e. Some (state.Member (record f { fields = f.fields ++ e ∷ [] }) kind.Field))
    else if same t.name (codes "function") then bind (function t place) (λ e. Some (state.Member (record f { functions = f.functions ++ e ∷ [] }) kind.Function))
    else None

abbrev pub opened : State → Tag → Place → Option State
opened state.Before t place = if same t.name (codes "component") then bind (header t place) (λ f. Some (state.Component f)) else None
opened (state.Component f) t place = opened_part f t place
opened (state.Interface f) t place = opened_member f t place
opened (state.Member f k) t place = None
opened (state.Script f s) t place = None
opened (state.Children f os) t place = if nat_lt (length os) 64 && are_unlike t.attributes then Some (state.Children f (opening_child t place ∷ os)) else None
opened (state.After f) t place = None

abbrev pub with_child : ComponentFile → List OpenChild → ChildElement → State
with_child f [] c = state.Children (record f { children = f.children ++ c ∷ [] }) []
with_child f (o ∷ os) c = state.Children f (record o { children = o.children ++ c ∷ [] } ∷ os)

abbrev pub shut : State → Option State
shut state.Before = None
shut (state.Component f) = Some (state.After f)
shut (state.Interface f) = Some (state.Component f)
shut (state.Member f k) = Some (state.Interface f)
shut (state.Script f s) = if is_whole s then Some (state.Component (record f { scripts = f.scripts ++ s ∷ [] })) else None
shut (state.Children f []) = Some (state.Component f)
shut (state.Children f (o ∷ os)) = Some (with_child f os (child o o.children))
shut (state.After f) = None

-- the names that an end tag may have
abbrev pub closes : State → List ℕ → Bool
closes state.Before n = false
closes (state.Component f) n = same (codes "component") n
closes (state.Interface f) n = same (codes "interface") n
closes (state.Member f k) n = same (member_name k) n
closes (state.Script f s) n = same (codes "script") n
closes (state.Children f []) n = same (codes "children") n
closes (state.Children f (o ∷ os)) n = alike o.kind n
closes (state.After f) n = false

abbrev pub ended : State → List ℕ → Option State
ended s n = if closes s n then shut s else None

abbrev pub added : Option InlineScript → ComponentFile → ScriptElement → List ℕ → ℕ → Option State
added None f s text line = Some (state.Script f (record s { inline = Some (record { text = text; first_line = line }) }))
added (Some before) f s text line = None

-- a CDATA section stands in a script, once
abbrev pub with_data : State → List ℕ → ℕ → Option State
with_data state.Before text line = None
with_data (state.Component f) text line = None
with_data (state.Interface f) text line = None
with_data (state.Member f k) text line = None
with_data (state.Script f s) text line = added s.inline f s text line
with_data (state.Children f os) text line = None
with_data (state.After f) text line = None

unfoldable pub step : State → Piece → Place → Option State
step s piece.Declaration place = None
step s piece.Comment place = Some s
step s piece.Blank place = Some s
step s piece.Stray place = None
step s (piece.Data text) place = with_data s text place.line
step s (piece.Start t) place = opened s t place
step s (piece.Empty t) place = bind (opened s t place) shut
step s (piece.End n) place = ended s n

abbrev pub is_declaration : Piece → Bool
is_declaration piece.Declaration = true
is_declaration piece.Comment = false
is_declaration piece.Blank = false
is_declaration piece.Stray = false
is_declaration (piece.Data text) = false
is_declaration (piece.Start t) = false
is_declaration (piece.Empty t) = false
is_declaration (piece.End n) = false

-- a <?xml piece may be the first piece of all
unfoldable pub first_step : Piece → Place → Option State
first_step p place = if is_declaration p then Some state.Before else step state.Before p place

unfoldable pub advance : Progress → Piece → Place → Option Progress
advance Start p place = bind (first_step p place) (λ s. Some (Inside s))
advance (Inside s) p place = bind (step s p place) (λ s. Some (Inside s))
