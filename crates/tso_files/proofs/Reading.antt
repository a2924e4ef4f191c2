-- A file that is read piece by piece.
use Rattle.std.proofs.Common.{◌≡◌, ℕ, ◌+◌, ◌<◌, ◌≤◌, List, [], ◌++◌, length, take, drop, refl, sym, ◌∙◌, ap, subst, Option, Some, None, Result, Ok, Err, inl, inr, Vec, Global, arith, append_assoc}
use Rattle.std.specs.Option.{ForSome}
use Rattle.std.specs.Prelude.{IsErr}
use Rattle.std.proofs.lemmas.List.{length-append, length-take-le, append-nil, drop_all}
use Rattle.tso_outside.specs.declared.outside.Failed.{Failed}
use Rattle.tso_outside.specs.Views.{Files, held, StoreView, Later, ReadsFrom, ReadsAt}
use Rattle.tso_files.specs.declared.whole.ReadRefusal.TheVariants as refusal
use Rattle.tso_files.specs.Whole.{IsWhole, ReadsWhole}
use Rattle.tso_files.proofs.Causes.{later_same, later_trans, read_cause_from}

abbrev pub Begins : Option (List ℕ) → List ℕ → Type 0
Begins None items = Unit {0}
Begins (Some bytes) items = bytes ≡ items ++ drop (length items) bytes

-- so far these bytes were read
pub record Read (before now : StoreView) (name : List ℕ) (limit : ℕ) (items : List ℕ) : Type 0 where
  pub later : Later before now
  pub same_files : now.files ≡ before.files
  pub same_write_faults : now.write_faults ≡ before.write_faults
  pub short : length items ≤ limit
  pub told : ForSome before.files (λ files. Begins (held files name) items)

begins_nothing : (o : Option (List ℕ)) → Begins o []
begins_nothing None = tt
begins_nothing (Some bytes) = refl

pub read_nothing : (v : StoreView) (name : List ℕ) (limit : ℕ) (items : List ℕ) → items ≡ [] → Read v v name limit items
read_nothing v name limit items e =
    let P : List ℕ → Type 0 = λ xs. Read v v name limit xs in
    subst P (sym e) (record { later = later_same v; same_files = refl; same_write_faults = refl; short = omega arith; told = λ files h. begins_nothing (held files name) })

longer : (items new : List ℕ) (n : ℕ) → n ≤ length new → length (items ++ take n new) ≡ length items + n
longer items new n le = length-append items (take n new) ∙ ap (λ k. length items + k) (length-take-le n new le)

begins_more : (o : Option (List ℕ)) (items new : List ℕ) (from n : ℕ) → from ≡ length items → n ≤ length new → Begins o items → ReadsFrom o from new (Ok n) → Begins o (items ++ take n new)
begins_more None items new from n at le b r = tt
begins_more (Some bytes) items new from n at le b r =
    b
    ∙ ap (λ k. items ++ drop k bytes) (sym at)
    ∙ ap (λ xs. items ++ xs) r.0
    ∙ sym (append_assoc items (take n new) (drop (from + n) bytes))
    ∙ ap (λ k. (items ++ take n new) ++ drop k bytes) (ap (λ k. k + n) at ∙ sym (longer items new n le))

whole_here : (o : Option (List ℕ)) (items new : List ℕ) (from n limit : ℕ) (v : Vec ℕ Global) → v.items ≡ items → from ≡ length items → n ≡ 0 → 0 < length new → length items ≤ limit → Begins o items → ReadsFrom o from new (Ok n) → IsWhole o limit (Ok v)
whole_here None items new from n limit v e at zero some short b r = absurd (let f : IsErr {T = ℕ} {E = Failed} (Ok n) = r in cc)
whole_here (Some bytes) items new from n limit v e at zero some short b r =
    let le : length bytes ≤ length items = elim (r.1 zero) [ inl none ↦ absurd (omega arith) | inr past ↦ omega arith ] in
    let same : items ≡ bytes = sym (append-nil items) ∙ ap (λ xs. items ++ xs) (sym (drop_all (length items) bytes le)) ∙ sym b in
    (e ∙ same, omega (arith, ap length same))

too_long : (o : Option (List ℕ)) (items new : List ℕ) (from n limit : ℕ) → from ≡ length items → n ≤ length new → limit < length (items ++ take n new) → Begins o items → ReadsFrom o from new (Ok n) → IsWhole o limit (Err refusal.TooLong)
too_long None items new from n limit at le long b r = absurd (let f : IsErr {T = ℕ} {E = Failed} (Ok n) = r in cc)
too_long (Some bytes) items new from n limit at le long b r =
    let e = begins_more (Some bytes) items new from n at le b r in
    omega (arith, ap length e ∙ length-append (items ++ take n new) (drop (length (items ++ take n new)) bytes))

want_of_memory : (o : Option (List ℕ)) (limit : ℕ) → IsWhole o limit (Err refusal.NoMemory)
want_of_memory None limit = tt
want_of_memory (Some bytes) limit = tt

fault : (o : Option (List ℕ)) (limit : ℕ) → IsWhole o limit (Err refusal.ReadFault)
fault None limit = tt
fault (Some bytes) limit = tt

module _ (u v w : StoreView) (name : List ℕ) (limit : ℕ) (items new : List ℕ) (from : ℕ) (read : Read u v name limit items) (at : from ≡ length items) where
  told_at : (r : Result ℕ Failed) → ReadsAt v w name from new r → (files : Files) → u.files ≡ Some files → ReadsFrom (held files name) from new r
  told_at r a files e = a.told files (read.same_files ∙ e)

  pub read_more : (n : ℕ) (more : List ℕ) → ReadsAt v w name from new (Ok n) → more ≡ items ++ take n new → length more ≤ limit → Read u w name limit more
  read_more n more a e short =
      let P : List ℕ → Type 0 = λ xs. length xs ≤ limit → Read u w name limit xs in
      subst P (sym e) (λ le. record {
        later = later_trans u v w read.later a.later;
        same_files = a.same_files ∙ read.same_files;
        same_write_faults = a.same_write_faults ∙ read.same_write_faults;
        short = le;
        told = λ files h. begins_more (held files name) items new from n at a.bound (read.told files h) (told_at (Ok n) a files h);
      }) short

  pub read_all : (n : ℕ) (bytes : Vec ℕ Global) → ReadsAt v w name from new (Ok n) → bytes.items ≡ items → n ≡ 0 → 0 < length new → ReadsWhole u w name limit (Ok bytes)
  read_all n bytes a e zero some = record {
    later = later_trans u v w read.later a.later;
    same_files = a.same_files ∙ read.same_files;
    same_write_faults = a.same_write_faults ∙ read.same_write_faults;
    bound = let h = read.short in omega (arith, ap length e);
    told = λ files h. whole_here (held files name) items new from n limit bytes e at zero some read.short (read.told files h) (told_at (Ok n) a files h);
    cause = λ no_error. absurd (cc);
  }

  pub read_too_long : (n : ℕ) → ReadsAt v w name from new (Ok n) → limit < length (items ++ take n new) → ReadsWhole u w name limit (Err refusal.TooLong)
  read_too_long n a long = record {
    later = later_trans u v w read.later a.later;
    same_files = a.same_files ∙ read.same_files;
    same_write_faults = a.same_write_faults ∙ read.same_write_faults;
    bound = tt;
    told = λ files h. too_long (held files name) items new from n limit at a.bound long (read.told files h) (told_at (Ok n) a files h);
    cause = λ other. absurd (cc);
  }

  pub read_no_memory : (n : ℕ) → ReadsAt v w name from new (Ok n) → ReadsWhole u w name limit (Err refusal.NoMemory)
  read_no_memory n a = record {
    later = later_trans u v w read.later a.later;
    same_files = a.same_files ∙ read.same_files;
    same_write_faults = a.same_write_faults ∙ read.same_write_faults;
    bound = tt;
    told = λ files h. want_of_memory (held files name) limit;
    cause = λ other. absurd (cc);
  }

  pub read_fault : (failed : Failed) → ReadsAt v w name from new (Err failed) → ReadsWhole u w name limit (Err refusal.ReadFault)
  read_fault failed a = record {
    later = later_trans u v w read.later a.later;
    same_files = a.same_files ∙ read.same_files;
    same_write_faults = a.same_write_faults ∙ read.same_write_faults;
    bound = tt;
    told = λ files h. fault (held files name) limit;
    cause = λ same. read_cause_from (λ files. held files name ≡ None) u v w read.later read.same_files a.cause;
  }
