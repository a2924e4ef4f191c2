-- A command that writes a file: from its text, or the status in its place, to its promise.
use Rattle.std.proofs.Common.{◌≡◌, ◌≢◌, ℕ, List, take, refl, sym, ◌∙◌, ap, subst, Option, Some, None, Result, Ok, Err, inl, inr, ◌⊎◌, Vec, Global}
use Rattle.std.specs.Option.{ForSome}
use Rattle.tso_outside.specs.declared.outside.Failed.{Failed}
use Rattle.tso_outside.specs.Views.{Files, held, StoreView, SinkView, Rose, Later, ReadCause, Turns}
use Rattle.tso_status.specs.declared.status.Status.{Status}
use Rattle.tso_status.specs.declared.status.Status.TheVariants.{Done, Usage, ReadFault, WriteFault}
use Rattle.tso_status.specs.Statuses.{line_of}
use Rattle.tso_top.specs.Commands.{Command, writes, Makes, Outcome}
use Rattle.tso_top.specs.Promise.{IsQuietFor, Prints, Promise, AreLines, WriteCause, ByWriteFault, Exactly, IsAsked, IsMissing, Leaves, OutAfter, Written, Begun, AsItWas}
use Rattle.tso_files.specs.Whole.{WritesWhole}
use Rattle.tso_top.specs.Answers.{TextFor, WritesText, Refused, IsWhole, IsCut}
use Rattle.tso_files.proofs.Causes.{later_trans, rose_from, turns_same}
use Rattle.tso_top.proofs.Outcomes.{free, done_not_free, not_rose, none_put, completed}

module _ (c : Command) (output : List ℕ) (writing : writes c ≡ Some output) (u : StoreView) where
  -- what it does to the store, whatever is printed
  record Does (w : StoreView) (s : Status) : Type 0 where
    later : Later u w
    not_usage : s ≢ Usage
    read_fault : s ≡ ReadFault → ReadCause (IsMissing c) u w
    exact : ForSome u.files (λ files. Exactly c files s)
    store : Turns u.files w.files (Leaves (Some output) (Makes c) s)

  left : (v w : StoreView) (s : Status) (P : Files → Files → Type 0) → v.files ≡ u.files → ((old new : Files) → u.files ≡ Some old → P old new → Leaves (Some output) (Makes c) s old new) → (f : Option Files) → u.files ≡ f → Turns v.files w.files P → Turns f w.files (Leaves (Some output) (Makes c) s)
  left v w s P same step None e turns = let T : Option Files → Type 0 = λ x. Turns x w.files P in subst T (same ∙ e) turns
  left v w s P same step (Some old) e turns =
      let T : Option Files → Type 0 = λ x. Turns x w.files P in
      let t = subst T (same ∙ e) turns in
      (t.0, t.1, step old t.0 e t.2)

  made_done : (make : List ℕ → Type 0) (old new : Option (List ℕ)) (text : List ℕ) → make text → new ≡ Some text → OutAfter make old Done new
  made_done make old new text made e = let P : Option (List ℕ) → Type 0 = λ n. OutAfter make old Done n in subst P (sym e) (Written text made)

  made_cut : (make : List ℕ → Type 0) (old new : Option (List ℕ)) (text : List ℕ) → make text → (new ≡ old) ⊎ ((k : ℕ) × (new ≡ Some (take k text))) → OutAfter make old WriteFault new
  made_cut make old new text made e =
      let P : Option (List ℕ) → Type 0 = λ n. OutAfter make old WriteFault n in
      elim e [ inl same ↦ subst P (sym same) (AsItWas WriteFault (λ w. cc)) | inr begun ↦ subst P (sym begun.1) (Begun text begun.0 made) ]

  served : (answer : Result (Vec ℕ Global) Status) (v w : StoreView) (s : Status) → TextFor c u v answer → WritesText output answer v w s → Does w s
  served answer v w s h (Refused t x) = record {
    later = h.later;
    not_usage = h.not_usage;
    read_fault = h.read_fault;
    exact = h.told;
    store = turns_same (Leaves (Some output) (Makes c) t) (λ files. ((λ other ne. refl), AsItWas t (h.not_done t refl))) u.files x.files h.same_files;
  }
  served answer v w s h (IsWhole text x y b) = record {
    later = later_trans u x y h.later b.later;
    not_usage = h.not_usage;
    read_fault = λ e. absurd (cc);
    exact = h.told;
    store = left x y Done _ h.same_files (λ old new e k. (k.0, made_done (Makes c old) (held old output) (held new output) text.items (h.made old e) k.1)) u.files refl b.told;
  }
  served answer v w s h (IsCut text x y failed b) = record {
    later = later_trans u x y h.later b.later;
    not_usage = λ e. cc;
    read_fault = λ e. absurd (cc);
    exact = λ files e. free c files WriteFault ByWriteFault;
    store = left x y WriteFault _ h.same_files (λ old new e k. (k.0, made_cut (Makes c old) (held old output) (held new output) text.items (h.made old e) k.1)) u.files refl b.told;
  }

  cause : (answer : Result (Vec ℕ Global) Status) (v w : StoreView) (s : Status) → TextFor c u v answer → WritesText output answer v w s → s ≡ WriteFault → Rose u.write_faults w.write_faults × ForSome u.files (λ files. IsAsked c files Done)
  cause answer v w s h (Refused t x) e = absurd (h.not_write_fault e)
  cause answer v w s h (IsWhole text x y b) e = absurd (cc)
  cause answer v w s h (IsCut text x y failed b) e = (rose_from u.write_faults x.write_faults y.write_faults h.later.write_faults b.cause, λ files f. done_not_free (h.told files f).only)

  pub text_kept : (answer : Result (Vec ℕ Global) Status) (v w : StoreView) (a b : SinkView) (s : Status) → TextFor c u v answer → WritesText output answer v w s → Prints (line_of s) a b → Promise c u w a b s
  text_kept answer v w a b s h put p =
      let d = served answer v w s h put in
      let by = cause answer v w s h put in
      let C : Option (List ℕ) → Type 0 = λ o. WriteCause o (λ files. IsAsked c files Done) u w a b in
      let Q : Option (List ℕ) → Type 0 = λ o. IsQuietFor o u w a b in
      let L : Option (List ℕ) → Type 0 = λ o. AreLines o (Outcome c) u.files s (line_of s) in
      let S : Option (List ℕ) → Type 0 = λ o. Turns u.files w.files (Leaves o (Makes c) s) in
      record {
        later = d.later;
        not_usage = d.not_usage;
        exact = d.exact;
        read_fault = d.read_fault;
        write_fault = λ e. subst C (sym writing) (by e);
        complete = λ files e asked quiet quiet_write. completed c u w s d.exact d.read_fault files e asked quiet (λ fault. not_rose u.write_faults w.write_faults (subst Q writing quiet_write) (by fault).0);
        store = subst S (sym writing) d.store;
        sink = record { lines = line_of s; are = subst L (sym writing) refl; prints = p; done = λ e. none_put (line_of s) a b (ap line_of e) p };
      }

-- an answer that is written
module _ (output : List ℕ) (v w : StoreView) (answer : Result (Vec ℕ Global) Status) where
  pub text_whole : (text : Vec ℕ Global) → answer ≡ Ok text → WritesWhole v w output text.items (Ok tt) → WritesText output answer v w Done
  text_whole text is a = let P : Result (Vec ℕ Global) Status → Type 0 = λ x. WritesText output x v w Done in subst P (sym is) (IsWhole text v w a)

  pub text_cut : (text : Vec ℕ Global) (failed : Failed) → answer ≡ Ok text → WritesWhole v w output text.items (Err failed) → WritesText output answer v w WriteFault
  text_cut text failed is a = let P : Result (Vec ℕ Global) Status → Type 0 = λ x. WritesText output x v w WriteFault in subst P (sym is) (IsCut text v w failed a)

pub text_refused : (output : List ℕ) (v : StoreView) (answer : Result (Vec ℕ Global) Status) (s : Status) → answer ≡ Err s → WritesText output answer v v s
text_refused output v answer s is = let P : Result (Vec ℕ Global) Status → Type 0 = λ x. WritesText output x v v s in subst P (sym is) (Refused s v)
