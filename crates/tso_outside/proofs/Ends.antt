-- How a read of the store in memory ends, from what its steps answered.
use Rattle.std.proofs.Common.{◌≡◌, ℕ, ◌-◌, min, List, length, drop, sym, ◌∙◌, ap, subst, Some, None, Ok, Err, true, false}
use Rattle.std.proofs.lemmas.List.{length-drop}
use Rattle.tso_outside.specs.declared.outside.Failed.{Failed}
use Rattle.tso_outside.specs.declared.mem_store.MemStore.{MemStore}
use Rattle.tso_outside.specs.Counting.{one_more, is_due}
use Rattle.tso_outside.specs.Entries.{entries}
use Rattle.tso_outside.specs.Views.{held}
use Rattle.tso_outside.specs.StoreCalls.{ReadEnds, Due, Misses, Gives}

-- the test for a failing call, made on a lent list
pub due_is : (failing lent : List ℕ) (number : ℕ) (test answer : _) → lent ≡ failing → test ≡ is_due lent number → test ≡ answer → is_due failing number ≡ answer
due_is failing lent number test answer same is went = ap (λ f. is_due f number) (sym same) ∙ sym is ∙ went

module _ (s : MemStore) (name : List ℕ) (from size : ℕ) where
  pub ends_due : (faults : ℕ) (failed : Failed) → faults ≡ one_more s.read_faults → is_due s.failing.items s.calls ≡ true → ReadEnds s name from size faults s.misses (Err failed)
  ends_due faults failed e due = let P : ℕ → Type 0 = λ k. ReadEnds s name from size k s.misses (Err failed) in subst P (sym e) (Due failed due)

  pub ends_missing : (misses : ℕ) (failed : Failed) → misses ≡ one_more s.misses → is_due s.failing.items s.calls ≡ false → held (entries s.files.items) name ≡ None → ReadEnds s name from size s.read_faults misses (Err failed)
  ends_missing misses failed e not_due none = let P : ℕ → Type 0 = λ k. ReadEnds s name from size s.read_faults k (Err failed) in subst P (sym e) (Misses failed not_due none)

  pub ends_given : (bytes source : List ℕ) (n : ℕ) → is_due s.failing.items s.calls ≡ false → held (entries s.files.items) name ≡ Some bytes → source ≡ drop from bytes → n ≡ min s.grain (min size (length source)) → ReadEnds s name from size s.read_faults s.misses (Ok n)
  ends_given bytes source n not_due has is count =
      let P : ℕ → Type 0 = λ k. ReadEnds s name from size s.read_faults s.misses (Ok k) in
      let left : length source ≡ length bytes - from = ap length is ∙ length-drop from bytes in
      let e : n ≡ min s.grain (min size (length bytes - from)) = count ∙ ap (λ k. min s.grain (min size k)) left in
      subst P (sym e) (Gives bytes not_due has)
