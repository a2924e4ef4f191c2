use Rattle.std.proofs.Common.{◌≡◌, ◌∙◌, ◌<◌, ap, subst, List, ℕ, Vec, String, Global, Some, None, rules, arith, drop}
use Rattle.tso_outside.specs.Views.{held}
use Rattle.tso_outside.specs.Entries.{entries, IsPlaceOf}
use Rattle.tso_outside.proofs.Held.{reads, found_at, none_taken}
use Rattle.tso_outside.proofs.Ends.{due_is, ends_due, ends_missing, ends_given}
use Rattle.tso_outside.proofs.mem_store.MemStoreStore.read_at.Goals as goal

pub returns-then-is_failing-clause-ends : goal.returns-then-is_failing-clause-ends
returns-then-is_failing-clause-ends c =
    ends_due c.args.self.now _ _ _ _ _ c.saturating_add-self.ensures (due_is _ _ _ _ _ c.deref.ensures.value c.is_failing.ensures.due c.if-is_failing.true)

pub returns-in-Some-clause-reads : goal.returns-in-Some-clause-reads
returns-in-Some-clause-reads c =
    let place = subst (λ (fs : List (String Global × Vec ℕ Global)). IsPlaceOf (entries fs) c.args.name.now c.in-Some.place) c.deref-2.ensures.value c.in-Some.ensures in
    let has : held (entries c.args.self.now.files.items) c.args.name.now ≡ Some c.index.result.now.1.items = found_at c.args.self.now.files.items c.args.name.now c.in-Some.place c.index.result.now place c.index.ensures in
    let is = c.rest.ensures ∙ ap (drop c.args.from) c.deref-in-Some.ensures.value in
    let some : 0 < c.args.self.now.grain = c.args.self.now.some_grain in
    record {
      later = search rules;
      same_files = search rules;
      same_write_faults = search rules;
      bound = let e = c.copy_front.ensures.count in omega arith;
      told = reads (entries c.args.self.now.files.items) c.args.name.now c.index.result.now.1.items c.copy_front.new.into c.rest.result.now c.args.from c.copy_front.result has is c.copy_front.ensures.front (none_taken c.copy_front.new.into c.rest.result.now c.args.self.now.grain c.copy_front.result some c.copy_front.ensures.count);
      cause = tt;
    }

pub returns-in-Some-clause-ends : goal.returns-in-Some-clause-ends
returns-in-Some-clause-ends c =
    let place = subst (λ (fs : List (String Global × Vec ℕ Global)). IsPlaceOf (entries fs) c.args.name.now c.in-Some.place) c.deref-2.ensures.value c.in-Some.ensures in
    let has : held (entries c.args.self.now.files.items) c.args.name.now ≡ Some c.index.result.now.1.items = found_at c.args.self.now.files.items c.args.name.now c.in-Some.place c.index.result.now place c.index.ensures in
    let is = c.rest.ensures ∙ ap (drop c.args.from) c.deref-in-Some.ensures.value in
    ends_given c.args.self.now _ _ _ c.index.result.now.1.items c.rest.result.now c.copy_front.result (due_is _ _ _ _ _ c.deref.ensures.value c.is_failing.ensures.due c.if-is_failing.false) has is c.copy_front.ensures.count

pub returns-in-None-clause-ends : goal.returns-in-None-clause-ends
returns-in-None-clause-ends c =
    let none : held (entries c.args.self.now.files.items) c.args.name.now ≡ None = subst (λ (fs : List (String Global × Vec ℕ Global)). held (entries fs) c.args.name.now ≡ None) c.deref-2.ensures.value c.in-None.ensures in
    ends_missing c.args.self.now _ _ _ _ _ c.saturating_add-self-in-None.ensures (due_is _ _ _ _ _ c.deref.ensures.value c.is_failing.ensures.due c.if-is_failing.false) none
