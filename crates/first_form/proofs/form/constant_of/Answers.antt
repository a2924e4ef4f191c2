use Rattle.std.proofs.Common.{◌≡◌, sym, ◌∙◌, length, true, false}
use Rattle.std.proofs.lemmas.Bool.{ltb-true, ltb-false}
use Rattle.first_form.proofs.Telling.{list_within, long_enough, token_ordered, token_word, token_digits, list_told, list_is_form, bad_is_none, no_other, none_of, some_not_none}
use Rattle.first_form.proofs.form.constant_of.Goals as goal
use Rattle.first_form.proofs.form.constant_of.Goals.{else-is_none-via-then-is_none+else-are_ten, else-is_none-via-else-is_none}

pub returns-in_default : goal.returns-in_default
returns-in_default c = λ n h. long_enough c.args.bytes.now c.args.tokens.now.list.items c.args.tokens.now.bad c.requires c.deref.result.now c.deref.ensures.value n h (ltb-false 7 (length c.deref.result.now) (sym c.in_default.ensures.lookup.0))

pub word_of-requires-clause-order : goal.word_of-requires-clause-order
word_of-requires-clause-order c = (token_ordered c.args.bytes.now c.args.tokens.now.list.items c.args.tokens.now.bad c.requires c.deref.result.now c.deref.ensures.value _ c.in-Some.token.now (ltb-true 7 (length c.deref.result.now) (sym c.in-Some.ensures.lookup.0)) c.in-Some.ensures.lookup.1).0

pub word_of-requires-clause-within : goal.word_of-requires-clause-within
word_of-requires-clause-within c = (token_ordered c.args.bytes.now c.args.tokens.now.list.items c.args.tokens.now.bad c.requires c.deref.result.now c.deref.ensures.value _ c.in-Some.token.now (ltb-true 7 (length c.deref.result.now) (sym c.in-Some.ensures.lookup.0)) c.in-Some.ensures.lookup.1).1

pub value_of-requires : goal.value_of-requires
value_of-requires c = token_word c.args.bytes.now c.args.tokens.now.list.items c.args.tokens.now.bad c.requires c.deref.result.now c.deref.ensures.value _ c.in-Some.token.now (ltb-true 7 (length c.deref.result.now) (sym c.in-Some.ensures.lookup.0)) c.in-Some.ensures.lookup.1 c.word_of.result.now c.word_of.ensures

pub returns-in_default-value_of : goal.returns-in_default-value_of
returns-in_default-value_of c = λ n h.
    let digits = token_digits c.args.bytes.now c.args.tokens.now.list.items c.args.tokens.now.bad c.requires c.deref.result.now c.deref.ensures.value _ c.in-Some.token.now (ltb-true 7 (length c.deref.result.now) (sym c.in-Some.ensures.lookup.0)) c.in-Some.ensures.lookup.1 c.word_of.result.now c.word_of.ensures n h in
    c.in_default-value_of.not-Some n (c.value_of.ensures n h.small digits)

pub are_ten-requires : goal.are_ten-requires
are_ten-requires c = list_within c.args.bytes.now c.args.tokens.now.list.items c.args.tokens.now.bad c.requires c.deref-then-is_none.result.now c.deref-then-is_none.ensures.value

pub returns-then-are_ten : goal.returns-then-are_ten
returns-then-are_ten c = list_is_form c.args.bytes.now c.args.tokens.now.list.items c.args.tokens.now.bad c.requires c.deref-then-is_none.result.now c.deref-then-is_none.ensures.value c.in-Some-value_of.number (none_of c.args.tokens.now.bad c.if-is_none.ensures) (sym c.if-are_ten.ensures)

pub returns-else-is_none : goal.returns-else-is_none
returns-else-is_none c = λ n h.
    let digits = token_digits c.args.bytes.now c.args.tokens.now.list.items c.args.tokens.now.bad c.requires c.deref.result.now c.deref.ensures.value _ c.in-Some.token.now (ltb-true 7 (length c.deref.result.now) (sym c.in-Some.ensures.lookup.0)) c.in-Some.ensures.lookup.1 c.word_of.result.now c.word_of.ensures n h in
    let form = no_other c.args.bytes.now c.args.tokens.now.list.items c.args.tokens.now.bad c.requires c.value_of.result c.in-Some-value_of.number n c.in-Some-value_of.is h (c.value_of.ensures n h.small digits) in
    elim c.else-is_none.branch [
      | else-is_none-via-then-is_none+else-are_ten w ↦
          let yes = list_told c.args.bytes.now c.args.tokens.now.list.items c.args.tokens.now.bad c.requires w.deref-then-is_none.result.now w.deref-then-is_none.ensures.value c.in-Some-value_of.number form in
          let k : false ≡ true = w.if-are_ten.ensures ∙ yes in cc
      | else-is_none-via-else-is_none w ↦ some_not_none c.args.tokens.now.bad w.if-is_none.ensures (bad_is_none c.args.bytes.now c.args.tokens.now.list.items c.args.tokens.now.bad c.requires n h)
    ]
