-- A file that is written piece by piece, and a sink that is put on piece by piece.
use Rattle.std.proofs.Common.{◌≡◌, ℕ, zero, suc, ◌+◌, ◌<◌, ◌≤◌, List, [], ◌∷◌, ◌++◌, length, take, drop, refl, sym, ◌∙◌, ap, Some, Ok, Err, inl, inr, arith, append_assoc}
use Rattle.std.proofs.lemmas.List.{append-nil, take_all}
use Rattle.tso_outside.specs.declared.outside.Failed.{Failed}
use Rattle.tso_outside.specs.Views.{held, or_empty, StoreView, SinkView, Later, Turns, Spares, WritesNew, Appends, Puts}
use Rattle.tso_files.specs.Whole.{WritesWhole, PutsWhole}
use Rattle.tso_files.proofs.Causes.{later_trans, rose_from, turns_same, turns_more, turns_map}

-- the first k bytes and then the first n of the rest
pub take_on : (k n : ℕ) (xs : List ℕ) → take k xs ++ take n (drop k xs) ≡ take (k + n) xs
take_on zero n xs = ap (λ m. take m xs) (omega arith)
take_on (suc k) n [] = take_all n [] (omega arith) ∙ sym (take_all (suc k + n) [] (omega arith))
take_on (suc k) n (x ∷ xs) = ap (λ ys. x ∷ ys) (take_on k n xs) ∙ ap (λ m. take m (x ∷ xs)) (let e : suc (k + n) ≡ suc k + n = omega arith in e)

-- so far the file holds so many first bytes of the text
pub record Wrote (before now : StoreView) (name text : List ℕ) (taken : ℕ) : Type 0 where
  pub later : Later before now
  pub same_read_faults : now.read_faults ≡ before.read_faults
  pub same_misses : now.misses ≡ before.misses
  pub told : Turns before.files now.files (λ old new. Spares name old new × (held new name ≡ Some (take taken text)))

pub wrote_nothing : (u v : StoreView) (name text : List ℕ) (done : Unit {0}) → WritesNew u v name (Ok done) → Wrote u v name text 0
wrote_nothing u v name text done a = record {
  later = a.later;
  same_read_faults = a.same_read_faults;
  same_misses = a.same_misses;
  told = turns_map _ _ (λ old new h. (h.0, h.1)) u.files v.files a.told;
}

pub not_begun : (u v : StoreView) (name text : List ℕ) (failed : Failed) → WritesNew u v name (Err failed) → WritesWhole u v name text (Err failed)
not_begun u v name text failed a = record {
  later = a.later;
  same_read_faults = a.same_read_faults;
  same_misses = a.same_misses;
  told = turns_map _ _ (λ old new h. (h.0, elim h.1 [ inl same ↦ inl same | inr empty ↦ inr (0, empty) ])) u.files v.files a.told;
  cause = a.cause;
}

module _ (u v w : StoreView) (name text : List ℕ) (taken : ℕ) (wrote : Wrote u v name text taken) where
  pub wrote_more : (n : ℕ) (piece : List ℕ) → piece ≡ drop taken text → Appends v w name piece (Ok n) → Wrote u w name text (taken + n)
  wrote_more n piece e a = record {
    later = later_trans u v w wrote.later a.later;
    same_read_faults = a.same_read_faults ∙ wrote.same_read_faults;
    same_misses = a.same_misses ∙ wrote.same_misses;
    told = turns_more _ _ _ (λ old mid new b c. (
      λ other ne. c.0 other ne ∙ b.0 other ne,
      c.1 ∙ ap (λ o. Some (or_empty o ++ take n piece)) b.1 ∙ ap (λ p. Some (take taken text ++ take n p)) e ∙ ap Some (take_on taken n text),
    )) u.files v.files w.files wrote.told a.told;
  }

  pub wrote_all : length text ≤ taken → (done : Unit {0}) → WritesWhole u v name text (Ok done)
  wrote_all le done = record {
    later = wrote.later;
    same_read_faults = wrote.same_read_faults;
    same_misses = wrote.same_misses;
    told = turns_map _ _ (λ old new h. (h.0, h.1 ∙ ap Some (take_all taken text le))) u.files v.files wrote.told;
    cause = tt;
  }

  pub stopped : (failed : Failed) (piece : List ℕ) → Appends v w name piece (Err failed) → WritesWhole u w name text (Err failed)
  stopped failed piece a = record {
    later = later_trans u v w wrote.later a.later;
    same_read_faults = a.same_read_faults ∙ wrote.same_read_faults;
    same_misses = a.same_misses ∙ wrote.same_misses;
    told = turns_more _ _ _ (λ old mid new b c. (λ other ne. c.0 other ne ∙ b.0 other ne, inr (taken, c.1 ∙ b.1))) u.files v.files w.files wrote.told a.told;
    cause = rose_from u.write_faults v.write_faults w.write_faults wrote.later.write_faults a.cause;
  }

-- so far the sink got so many first bytes of the lines
pub record Put (before now : SinkView) (lines : List ℕ) (taken : ℕ) : Type 0 where
  pub later : before.faults ≤ now.faults
  pub told : Turns before.bytes now.bytes (λ old new. new ≡ old ++ take taken lines)
  pub nothing : length lines ≡ 0 → now ≡ before

pub put_nothing : (v : SinkView) (lines : List ℕ) → Put v v lines 0
put_nothing v lines = record { later = omega arith; told = turns_same _ (λ old. sym (append-nil old)) v.bytes v.bytes refl; nothing = λ e. refl }

module _ (u v w : SinkView) (lines : List ℕ) (taken : ℕ) (put : Put u v lines taken) where
  pub put_more : taken < length lines → (n : ℕ) (piece : List ℕ) → piece ≡ drop taken lines → Puts v w piece (Ok n) → Put u w lines (taken + n)
  put_more more n piece e a = record {
    later = let h = put.later in let k = a.later in omega arith;
    told = turns_more _ _ (λ old new. new ≡ old ++ take (taken + n) lines) (λ old mid new b c.
        let c2 : new ≡ mid ++ take n piece = cc in
        c2 ∙ ap (λ xs. xs ++ take n piece) b ∙ append_assoc old (take taken lines) (take n piece) ∙ ap (λ p. old ++ (take taken lines ++ take n p)) e ∙ ap (λ xs. old ++ xs) (take_on taken n lines)) u.bytes v.bytes w.bytes put.told a.told;
    nothing = λ none. absurd (omega arith);
  }

  pub put_all : length lines ≤ taken → (done : Unit {0}) → PutsWhole u v lines (Ok done)
  put_all le done = record {
    later = put.later;
    prefix = turns_map _ _ (λ old new h. (taken, h)) u.bytes v.bytes put.told;
    whole = turns_map _ _ (λ old new h. h ∙ ap (λ xs. old ++ xs) (take_all taken lines le)) u.bytes v.bytes put.told;
    cause = tt;
    nothing = λ none. put.nothing (ap length none);
  }

  pub put_stopped : taken < length lines → (failed : Failed) (piece : List ℕ) → Puts v w piece (Err failed) → PutsWhole u w lines (Err failed)
  put_stopped more failed piece a = record {
    later = let h = put.later in let k = a.later in omega arith;
    prefix = turns_more _ _ (λ old new. (k : ℕ) × (new ≡ old ++ take k lines)) (λ old mid new b c. (taken, let c2 : new ≡ mid = cc in c2 ∙ b)) u.bytes v.bytes w.bytes put.told a.told;
    whole = tt;
    cause = rose_from u.faults v.faults w.faults put.later a.cause;
    nothing = λ none. absurd (omega (arith, ap length none));
  }
