use Rattle.std.proofs.Common.{◌≡◌, ◌∙◌, [], ◌∷◌, ◌++◌, map, refl, ap, sym, subst}
use Rattle.std.specs.Prelude.{◌↔◌, IsTrue}
use Rattle.chan_values.specs.Folded.{folded}
use Rattle.chan_values.specs.Tree.{keys_of, pairs_of}
use Rattle.chan_values.specs.Portable.{IsKeyList, IsPortable}
use Rattle.chan_values.specs.View.{tree_pair_of}
use Rattle.chan_values.proofs.Order.{key_may_follow, last_key}
use Rattle.chan_values.proofs.portable.PairList.may_follow.Goals as goal

pub returns-then-is_folded : goal.returns-then-is_folded
returns-then-is_folded c =
    let seen = c.as_str-then-is_folded.ensures.bytes in
    let whole = subst (λ ps. IsPortable (pairs_of ps)) c.self.view_is c.self.invariant.0 in
    let same = subst (λ k. folded k ≡ k) (c.as_str.ensures.bytes ∙ sym seen) (c.if-is_folded.ensures.0 refl) in
    let answer = key_may_follow _ c.args.self.now _ _ (ap (map tree_pair_of) c.as_slice.ensures ∙ c.self.view_is) whole same c.comes_after.ensures in
    subst (λ k. IsTrue c.comes_after.result ↔ IsKeyList (keys_of c.args.self.now ++ k ∷ [])) seen answer

pub returns-else-is_folded : goal.returns-else-is_folded
returns-else-is_folded c = (
  λ h. absurd cc,
  λ l. c.is_folded.ensures.1 (subst (λ k. folded k ≡ k) (sym c.as_str.ensures.bytes) (last_key _ _ l).0),
)
