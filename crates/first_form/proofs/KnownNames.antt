-- The condition on names by a list of names and by a test are one.
use Rattle.std.proofs.Common.{◌≡◌, ℕ, ◌+◌, ◌<◌, ◌≤◌, Bool, true, false, ◌&&◌, ◌||◌, not, cond, List, [], ◌∷◌, length, get_or, drop, refl, sym, ap, ◌∙◌, codes}
use Rattle.std.specs.List.{list_all}
use Rattle.std.specs.Str.{bytes_eq}
use Rattle.std.proofs.lemmas.List.{at_drop_more, at_drop_all}
use Rattle.first_form.specs.FirstNames.{is_known, operand_known, sum_known, item_known, names_set}
use Rattle.first_form.specs.FirstForm.{assigns_m, names_good}
use Rattle.first_form.specs.FirstKnown.{operand_in, sum_in, item_in, line_in, known_after, lines_in}
use Rattle.first_form.specs.declared.tree.Line.{Line}
use Rattle.first_form.specs.declared.tree.Line.TheVariants.{Assign, Print}
use Rattle.first_form.specs.declared.tree.PrintItem.{PrintItem}
use Rattle.first_form.specs.declared.tree.PrintItem.TheVariants as item
use Rattle.first_form.specs.declared.tree.Operand.{Operand}
use Rattle.first_form.specs.declared.tree.Operand.TheVariants.{Number, Name}
use Rattle.first_form.specs.declared.tree.Sum.{Sum}

both_same : (a b c d : Bool) → a ≡ c → b ≡ d → (a && b) ≡ (c && d)
both_same a b c d e f = ap (λ x. x && b) e ∙ ap (λ y. c && y) f

all_same : {X : Type 0} (f g : X → Bool) → ((x : X) → f x ≡ g x) → (xs : List X) → list_all f xs ≡ list_all g xs
all_same f g h [] = refl
all_same f g h (x ∷ xs) = both_same (f x) (list_all f xs) (g x) (list_all g xs) (h x) (all_same f g h xs)

module _ (f g : List ℕ → Bool) (h : (name : List ℕ) → f name ≡ g name) where
  operand_same : (o : Operand) → operand_in f o ≡ operand_in g o
  operand_same (Number n) = refl
  operand_same (Name name) = h name

  sum_same : (s : Sum) → sum_in f s ≡ sum_in g s
  sum_same s = both_same _ _ _ _ (operand_same s.first) (all_same (λ t. operand_in f t.operand) (λ t. operand_in g t.operand) (λ t. operand_same t.operand) s.more)

  item_same : (i : PrintItem) → item_in f i ≡ item_in g i
  item_same (item.Words words) = refl
  item_same (item.Sum s) = sum_same s

  line_same : (l : Line) → line_in f l ≡ line_in g l
  line_same (Assign target s) = ap (λ b. not (bytes_eq target (codes "m")) && b) (sum_same s)
  line_same (Print items) = all_same (item_in f) (item_in g) item_same items

  after_same : (l : Line) (name : List ℕ) → known_after f l name ≡ known_after g l name
  after_same (Assign target s) name = ap (λ b. bytes_eq target name || b) (h name)
  after_same (Print items) name = h name

pub lines_same : (f g : List ℕ → Bool) → ((name : List ℕ) → f name ≡ g name) → (lines : List Line) → lines_in f lines ≡ lines_in g lines
lines_same f g h [] = refl
lines_same f g h (l ∷ lines) = both_same _ _ _ _ (line_same f g h l) (lines_same (known_after f l) (known_after g l) (after_same f g h l) lines)

operand_listed : (known : List (List ℕ)) (o : Operand) → operand_known known o ≡ operand_in (is_known known) o
operand_listed known (Number n) = refl
operand_listed known (Name name) = refl

sum_listed : (known : List (List ℕ)) (s : Sum) → sum_known known s ≡ sum_in (is_known known) s
sum_listed known s = both_same _ _ _ _ (operand_listed known s.first) (all_same (λ t. operand_known known t.operand) (λ t. operand_in (is_known known) t.operand) (λ t. operand_listed known t.operand) s.more)

item_listed : (known : List (List ℕ)) (i : PrintItem) → item_known known i ≡ item_in (is_known known) i
item_listed known (item.Words words) = refl
item_listed known (item.Sum s) = sum_listed known s

regroup : (a b c d : Bool) → ((a && b) && (c && d)) ≡ ((a && c) && (b && d))
regroup true true c d = refl
regroup true false true d = refl
regroup true false false d = refl
regroup false b c d = refl

past : (b c d : Bool) → (b && (c && d)) ≡ (c && (b && d))
past true c d = refl
past false true d = refl
past false false d = refl

abbrev no_m : Line → Bool
no_m line = not (assigns_m line)

listed : (known : List (List ℕ)) (lines : List Line) → (list_all no_m lines && names_set known lines) ≡ lines_in (is_known known) lines
listed known [] = refl
listed known (Assign target s ∷ lines) =
    regroup (not (bytes_eq target (codes "m"))) (list_all no_m lines) (sum_known known s) (names_set (target ∷ known) lines)
    ∙ both_same _ _ _ _ (ap (λ b. not (bytes_eq target (codes "m")) && b) (sum_listed known s)) (listed (target ∷ known) lines)
listed known (Print items ∷ lines) =
    past (list_all no_m lines) (list_all (item_known known) items) (names_set known lines)
    ∙ both_same _ _ _ _ (all_same (item_known known) (item_in (is_known known)) (item_listed known) items) (listed known lines)

-- at the start no name is known
pub names_good-listed : (f : List ℕ → Bool) → ((name : List ℕ) → f name ≡ false) → (lines : List Line) → names_good lines ≡ lines_in f lines
names_good-listed f none lines = listed [] lines ∙ sym (lines_same f (is_known []) none lines)

pub or_from_cond : (a b : Bool) → cond a true b ≡ (a || b)
or_from_cond true b = refl
or_from_cond false b = refl

-- a line that isn't good ends the test, and behind one that is the rest decides
pub line_refused : (f : List ℕ → Bool) (lines : List Line) (i : ℕ) (d : Line) (good : Bool) → i < length lines → good ≡ lines_in f (drop i lines) → line_in f (get_or lines i d) ≡ false → false ≡ good
line_refused f lines i d good below e bad =
    sym (e ∙ at_drop_more (lines_in f) lines i d below ∙ ap (λ b. b && lines_in (known_after f (get_or lines i d)) (drop (i + 1) lines)) bad)

pub line_passed : (f g : List ℕ → Bool) (lines : List Line) (i : ℕ) (d : Line) (good : Bool) → i < length lines → good ≡ lines_in f (drop i lines) → line_in f (get_or lines i d) ≡ true
    → ((name : List ℕ) → g name ≡ known_after f (get_or lines i d) name) → good ≡ lines_in g (drop (i + 1) lines)
line_passed f g lines i d good below e passes learnt =
    e ∙ at_drop_more (lines_in f) lines i d below
    ∙ ap (λ b. b && lines_in (known_after f (get_or lines i d)) (drop (i + 1) lines)) passes
    ∙ sym (lines_same g (known_after f (get_or lines i d)) learnt (drop (i + 1) lines))

pub lines_over : (f : List ℕ → Bool) (lines : List Line) (i : ℕ) (good : Bool) → length lines ≤ i → good ≡ lines_in f (drop i lines) → true ≡ good
lines_over f lines i good over e = sym (e ∙ at_drop_all (lines_in f) lines i over)
