use Rattle.std.proofs.Common.{◌≢◌, slice_index, sym, ◌∙◌}
use Rattle.brs_tokens.proofs.TextsLemmas.{front-utf8, reading-start, reading-end, reading-pair}
use Rattle.brs_tokens.proofs.quoted.text_value.Goals as goal

pub quotes-init : goal.quotes-init
quotes-init c = reading-start _ _ _ c.requires (sym c.byte_at.ensures ∙ c.if-byte_at-ne34.false) c.new-value.ensures c.split_at.ensures.back

pub push-requires : goal.push-requires
push-requires c = front-utf8 c.quotes.rest.now _ c.run_len-len.result c.quotes.invariant.utf8 c.run_len-len.ensures.len c.split_at-in-quotes.ensures.front

pub returns-then-byte_at-ne34-2 : goal.returns-then-byte_at-ne34-2
returns-then-byte_at-ne34-2 c =
    let h = c.split_at-in-quotes.ensures in
    let other : slice_index c.split_at-in-quotes.result.1.now 1 ≢ 34 = λ e. c.if-byte_at-ne34-2.true (c.byte_at-in-quotes.ensures ∙ e) in
    reading-end _ _ c.quotes.rest.now _ _ _ c.run_len-len.result c.quotes.invariant c.run_len-len.ensures.len h.front h.back other c.in_ok-push.ensures.ok

pub quotes-preserved : goal.quotes-preserved
quotes-preserved c =
    let h = c.split_at-in-quotes.ensures in
    reading-pair _ _ c.quotes.rest.now _ _ _ _ _ c.run_len-len.result c.quotes.invariant c.run_len-len.ensures.len h.front h.back (sym c.byte_at-in-quotes.ensures ∙ c.if-byte_at-ne34-2.false)
    c.in_ok-push.ensures.ok c.in_ok-push_str.ensures.ok c.split_at-in-quotes-2.ensures.back
