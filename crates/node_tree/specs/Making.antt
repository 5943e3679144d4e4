-- How nodes are made: a node of a kind with the nodes below it, numbered in preorder.
use Rattle.std.specs.Prelude.{ℕ, zero, suc, ◌+◌, List, [], ◌∷◌, ◌++◌, Option, Some, None, map, length, slice_get}
use Rattle.std.specs.List.{flat_map}
use Rattle.chan_values.specs.Folded.{folded}
use Rattle.chan_values.specs.View.{tree_of}
use Rattle.field_types.specs.declared.plans.AttributeValue.{AttributeValue}
use Rattle.field_types.specs.declared.plans.FieldPlan.{FieldPlan}
use Rattle.field_types.specs.declared.plans.KindPlan.{KindPlan}
use Rattle.field_types.specs.Elements.{Elements, none as no_element}
use Rattle.field_types.specs.Plans.{elements_of}
use Rattle.node_tree.specs.declared.field.Field.{Field}
use Rattle.node_tree.specs.declared.node.Node.{Node}
use Rattle.node_tree.specs.Fields.{with_value}
use Rattle.node_tree.specs.Subtree.{Subtree, subtree, Subtrees, none, more, joined, size, of_elements}

-- ---- the fields of a new node

abbrev pub base_in : Option KindPlan → Option ℕ
base_in None = None
base_in (Some p) = p.base

abbrev pub kind_in : Option KindPlan → List ℕ
kind_in None = []
kind_in (Some p) = p.kind

-- a field of a new node holds its kind's opening value
abbrev pub opening_field : FieldPlan → Field
opening_field p = record { id = folded p.id; kind = p.kind; always = p.always; value = tree_of p.opening; opening = tree_of p.opening }

abbrev pub own_in : Option KindPlan → List Field
own_in None = []
own_in (Some p) = map opening_field p.fields

abbrev pub own_fields : List KindPlan → ℕ → List Field
own_fields plans place = own_in (slice_get plans place)

-- a kind and the kinds that it extends, by their places, the first base first and so many at most
abbrev pub lineage : ℕ → List KindPlan → Option ℕ → List ℕ
lineage zero plans o = []
lineage (suc most) plans None = []
lineage (suc most) plans (Some place) = lineage most plans (base_in (slice_get plans place)) ++ place ∷ []

-- a kind's table of fields: its base's, and then its own. No kind extends more kinds than there are
abbrev pub kind_fields : List KindPlan → ℕ → List Field
kind_fields plans place = flat_map (own_fields plans) (lineage (length plans) plans (Some place))

-- the fields of a node of a child element: the field that an attribute names begins with what the attribute says
abbrev pub with_attributes : List AttributeValue → List Field → List Field
with_attributes [] fields = fields
with_attributes (v ∷ vs) fields = with_attributes vs (with_value v.field (tree_of v.value) fields)

-- ---- what a making makes

abbrev pub elements_in : Option KindPlan → Elements
elements_in None = no_element
elements_in (Some p) = elements_of p.children

-- the children that a kind gives each of its nodes: those that its base gives, and then what its own elements make.
-- Kinds stand inside one another, so many deep at most
abbrev pub children_given : ℕ → List KindPlan → Option ℕ → Subtrees
children_given zero plans o = none
children_given (suc most) plans None = none
children_given (suc most) plans (Some place) = joined (children_given most plans (base_in (slice_get plans place))) (of_elements (λ p. children_given most plans (Some p)) (elements_in (slice_get plans place)))

-- a node of a kind with all below it. A kind holds only kinds of lower places, so none stand deeper than there are kinds
abbrev pub kind_subtree : List KindPlan → ℕ → Subtree
kind_subtree plans place = subtree place [] (children_given (length plans) plans (Some place))

-- ---- the nodes that are made

-- the numbers of the topmost nodes, where each subtree takes as many numbers as it has nodes
abbrev pub numbers : ℕ → Subtrees → List ℕ
numbers first none = []
numbers first (more t ts) = first ∷ numbers (first + size t) ts

abbrev pub made_node : List KindPlan → ℕ → Option ℕ → ℕ → List AttributeValue → List ℕ → Node
made_node plans owner parent place values children = record { kind = kind_in (slice_get plans place); owner = owner; parent = parent; children = children; fields = with_attributes values (kind_fields plans place) }

-- the nodes of a subtree in preorder, the topmost one first, with numbers from that of the first one on
abbrev mutual
  pub numbered : List KindPlan → ℕ → Option ℕ → ℕ → Subtree → List Node
  numbered plans owner parent first (subtree place values children) = made_node plans owner parent place values (numbers (suc first) children) ∷ all_numbered plans owner (Some first) (suc first) children

  pub all_numbered : List KindPlan → ℕ → Option ℕ → ℕ → Subtrees → List Node
  all_numbered plans owner parent first none = []
  all_numbered plans owner parent first (more t ts) = numbered plans owner parent first t ++ all_numbered plans owner parent (first + size t) ts

-- how many nodes a making makes
abbrev pub made_count : List KindPlan → ℕ → ℕ
made_count plans place = size (kind_subtree plans place)

-- the nodes, once a node of a kind was made, with all below it
abbrev pub made : List Node → List KindPlan → ℕ → ℕ → List Node
made nodes plans place owner = nodes ++ numbered plans owner None (suc (length nodes)) (kind_subtree plans place)

-- a node of a kind alone
abbrev pub new_node : List KindPlan → ℕ → ℕ → Node
new_node plans place owner = made_node plans owner None place [] []
