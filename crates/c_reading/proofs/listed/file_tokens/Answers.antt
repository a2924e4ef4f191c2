use Rattle.std.proofs.Common.{length, arith}
use Rattle.c_tokens.specs.declared.token.TokenKind.TheVariants.{Identifier}
use Rattle.c_reading.proofs.FileTokens.{word_at, lies_at, next_taken, lies_too, listed, all_lie, whole_list}
use Rattle.c_reading.proofs.listed.file_tokens.Goals as goal

pub taken-requires-clause-word : goal.taken-requires-clause-word
taken-requires-clause-word c = word_at c.args.bytes.now c.in_ok-list.field-0.list.items c.deref-token-items.result.now c.loop-token.token-index _ c.deref-token-items.ensures.value c.in_ok-list.ensures.words c.loop-token-test.true

pub taken-requires-clause-ordered : goal.taken-requires-clause-ordered
taken-requires-clause-ordered c =
    let h = lies_at c.args.bytes.now c.in_ok-list.field-0.list.items c.deref-token-items.result.now c.loop-token.token-index (record { kind = Identifier; from = 0; to = 0 }) c.deref-token-items.ensures.value c.in_ok-list.ensures.in_order c.loop-token-test.true in omega (arith, h.0)

pub taken-requires-clause-within : goal.taken-requires-clause-within
taken-requires-clause-within c =
    (lies_at c.args.bytes.now c.in_ok-list.field-0.list.items c.deref-token-items.result.now c.loop-token.token-index _ c.deref-token-items.ensures.value c.in_ok-list.ensures.in_order c.loop-token-test.true).1

pub loop-token-preserved : goal.loop-token-preserved
loop-token-preserved c =
    let bytes = c.args.bytes.now in
    let h = lies_at bytes c.in_ok-list.field-0.list.items c.deref-token-items.result.now c.loop-token.token-index (record { kind = Identifier; from = 0; to = 0 }) c.deref-token-items.ensures.value c.in_ok-list.ensures.in_order c.loop-token-test.true in
    record {
      taken = next_taken bytes c.deref-token-items.result.now c.loop-token.token-index _ c.loop-token.kinds.items c.add.new.list.items c.taken.result c.loop-token-test.true c.loop-token.invariant.taken (c.taken.ensures.kind, c.taken.ensures.from, c.taken.ensures.to) c.in_ok-add.ensures;
      within = lies_too (length bytes) c.loop-token.kinds.items c.add.new.list.items c.taken.result c.loop-token.invariant.within (let f = c.taken.ensures.from in let t = c.taken.ensures.to in omega (arith, h.0), let t = c.taken.ensures.to in omega (arith, h.1)) c.in_ok-add.ensures;
    }

pub returns-clause-exact : goal.returns-clause-exact
returns-clause-exact c =
    listed c.args.bytes.now c.in_ok-list.field-0.bad c.in_ok-list.field-0.list.items c.loop-token.kinds.items c.add_bad.new.list.items c.in_ok-list.ensures.exact
    (whole_list c.in_ok-list.field-0.list.items c.deref-token-items.result.now c.args.bytes.now c.loop-token.token-index c.loop-token.kinds.items c.deref-token-items.ensures.value c.loop-token.invariant.taken c.loop-token-test.false) c.in_ok-add_bad.ensures

pub returns-clause-within : goal.returns-clause-within
returns-clause-within c = all_lie (length c.args.bytes.now) c.in_ok-list.field-0.bad c.loop-token.kinds.items c.add_bad.new.list.items c.loop-token.invariant.within c.in_ok-list.ensures.bad_within c.in_ok-add_bad.ensures
