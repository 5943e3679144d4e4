use Rattle.std.proofs.Common.{◌≡◌, ◌∙◌, [], ◌∷◌, ◌++◌, true, set, ap, sym, subst, refl, map, reverse, length, arith, vec_len}
use Rattle.std.specs.Option.{option_to_list}
use Rattle.component_cycles.proofs.Searches.{empty_list}
use Rattle.kind_order.specs.Graph.{named_in}
use Rattle.kind_order.specs.Order.{put}
use Rattle.kind_order.specs.Walk.{begun, first_of, is_marked, walk_of}
use Rattle.kind_order.proofs.Walks.{IsWalking, walk_begins, walk_ends, going_on, fewer_left}
use Rattle.kind_order.proofs.Stacks.{popped_last, popped_count}
use Rattle.kind_order.proofs.walk.walk.Goals as goal

pub loop-visit-init : goal.loop-visit-init
loop-visit-init c =
    let count = length c.args.rows.now in
    let named = named_in c.args.rows.now in
    let start = c.args.start in
    let marks = c.args.marks.now.items in
    let order = c.args.order.now.items in
    let target = put count named order start in
    let off = sym (c.is_marked.ensures ∙ ap (λ m. is_marked m start) c.as_slice.ensures.value) ∙ c.if-is_marked.false in
    let w = walk_begins count named c.requires.graph target start marks order c.requires.marked off refl in
    let stack : map begun c.begin.new.stack.items ≡ first_of named start ∷ [] = c.in_ok-begin.ensures.stack ∙ ap (λ l. map begun l ++ first_of named start ∷ []) c.new-stack.ensures.items in
    subst (λ m. IsWalking count named target m (reverse (map begun c.begin.new.stack.items)) order) (sym c.in_ok-begin.ensures.marks)
    (subst (λ l. IsWalking count named target (set marks start true) l order) (sym (ap reverse stack)) w)

pub loop-visit-preserved : goal.loop-visit-preserved
loop-visit-preserved c =
    let count = length c.args.rows.now in
    let named = named_in c.args.rows.now in
    let target = put count named c.args.order.now.items c.args.start in
    let marks = c.loop-visit.marks.items in
    let order = c.loop-visit.order.items in
    let t0 = c.pop.new.self.items in
    let visit = c.in-Some.visit in
    let popped : c.loop-visit.stack.items ≡ t0 ++ visit ∷ [] = c.pop.ensures.items ∙ ap (λ o. t0 ++ option_to_list o) c.in-Some.is in
    going_on count named c.requires.graph target (walk_of marks t0 order) (walk_of c.go_on.new.marks.items c.go_on.new.stack.items c.go_on.new.order.items) (begun visit)
    (subst (λ l. IsWalking count named target marks l order) (popped_last c.loop-visit.stack.items t0 visit popped) c.loop-visit.invariant)
    c.in_ok-go_on.ensures

pub loop-visit-smaller : goal.loop-visit-smaller
loop-visit-smaller c =
    let named = named_in c.args.rows.now in
    let marks = c.loop-visit.marks.items in
    let order = c.loop-visit.order.items in
    let t0 = c.pop.new.self.items in
    let visit = c.in-Some.visit in
    let popped : c.loop-visit.stack.items ≡ t0 ++ visit ∷ [] = c.pop.ensures.items ∙ ap (λ o. t0 ++ option_to_list o) c.in-Some.is in
    fewer_left named marks order (map begun t0) (map begun c.loop-visit.stack.items) (popped_count c.loop-visit.stack.items t0 visit popped)
    (walk_of c.go_on.new.marks.items c.go_on.new.stack.items c.go_on.new.order.items) visit.place visit.left.now c.in_ok-go_on.ensures

pub returns-clause-marked : goal.returns-clause-marked
returns-clause-marked c =
    let count = length c.args.rows.now in
    let named = named_in c.args.rows.now in
    let target = put count named c.args.order.now.items c.args.start in
    let stack = c.loop-visit.stack in
    let marks = c.loop-visit.marks.items in
    let order = c.loop-visit.order.items in
    let counted : vec_len stack ≡ 0 = (rw c.in_default.is at c.pop.ensures.cases).0 in
    let none : length stack.items ≡ 0 = omega (arith, stack.ok.0) in
    (walk_ends count named c.requires.graph target marks order (subst (λ l. IsWalking count named target marks (reverse (map begun l)) order) (empty_list stack.items none) c.loop-visit.invariant)).1
