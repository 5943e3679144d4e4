-- The text of a value, before escapes.
use Rattle.std.specs.Prelude.{ℕ, List, [], ◌∷◌, ◌++◌, ◌==◌, if◌then◌else◌, codes}
use Rattle.std.specs.Fmt.{decimal, signed_decimal}
use Rattle.std.specs.List.{flat_map}
use Rattle.chan_values.specs.Tree.{Plain, Invalid, Boolean, Integer, LongInteger, Words, NodeNumber, PortNumber, Array, Keyed, Tree, Leaf, Branch, Trees, none, more, TreePair}

-- a `"` twice, and any other byte as it is
abbrev pub doubled : ℕ → List ℕ
doubled b = if b == 34 then 34 ∷ 34 ∷ [] else (b ∷ [])

abbrev pub quoted : List ℕ → List ℕ
quoted bytes = 34 ∷ (flat_map doubled bytes ++ 34 ∷ [])

abbrev pub plain_text : Plain → List ℕ
plain_text Invalid = codes "invalid"
plain_text (Boolean b) = if b then codes "true" else codes "false"
plain_text (Integer n) = signed_decimal n
plain_text (LongInteger n) = signed_decimal n ++ codes "&"
plain_text (Words bytes) = quoted bytes
plain_text (NodeNumber n) = codes "node " ++ decimal n
plain_text (PortNumber n) = codes "port " ++ decimal n

-- what stands behind the first of some texts
abbrev pub behind_first : List (List ℕ) → List ℕ
behind_first [] = []
behind_first (x ∷ xs) = codes ", " ++ (x ++ behind_first xs)

-- texts one after another, with `, ` between them
abbrev pub listed : List (List ℕ) → List ℕ
listed [] = []
listed (x ∷ xs) = x ++ behind_first xs

-- what stands before the text at a place of a list
abbrev pub separator : ℕ → List ℕ
separator at = if at == 0 then [] else codes ", "

abbrev mutual
  pub value_text : Tree → List ℕ
  value_text (Leaf p) = plain_text p
  value_text (Branch Array ts) = 91 ∷ (listed (texts ts) ++ 93 ∷ [])
  value_text (Branch (Keyed ks) ts) = 123 ∷ (listed (keyed_texts ks ts) ++ 125 ∷ [])

  pub texts : Trees → List (List ℕ)
  texts none = []
  texts (more t ts) = value_text t ∷ texts ts

  pub keyed_texts : List (List ℕ) → Trees → List (List ℕ)
  keyed_texts ks none = []
  keyed_texts [] (more t ts) = []
  keyed_texts (k ∷ ks) (more t ts) = (k ++ (codes ": " ++ value_text t)) ∷ keyed_texts ks ts

abbrev pub pair_text : TreePair → List ℕ
pair_text p = p.key ++ (codes ": " ++ value_text p.tree)
