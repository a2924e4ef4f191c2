-- A command that prints: from its status and its lines to its promise.
use Rattle.std.proofs.Common.{◌≡◌, ℕ, List, refl, sym, subst, Option, None, Result, Ok, Err}
use Rattle.tso_outside.specs.Views.{StoreView, SinkView, Rose, Turns}
use Rattle.tso_outside.specs.declared.outside.Failed.{Failed}
use Rattle.tso_files.specs.Whole.{PutsWhole}
use Rattle.tso_files.proofs.Causes.{turns_same}
use Rattle.tso_status.specs.declared.status.Status.{Status}
use Rattle.tso_status.specs.declared.status.Status.TheVariants.{Done, WriteFault}
use Rattle.tso_status.specs.Statuses.{line_of}
use Rattle.tso_top.specs.declared.replays.Printed.{Printed}
use Rattle.tso_top.specs.Commands.{Command, writes, Makes, Outcome}
use Rattle.tso_top.specs.Promise.{Promise, Prints, PutsAll, AreLines, WriteCause, IsQuietFor, IsAsked, Leaves, ByWriteFault}
use Rattle.tso_top.specs.Answers.{LinesFor, PutsLines, ArePut, AreCut, AreOwn, CutsOff, ByFault, Stays, printed_status, printed_lines}
use Rattle.tso_top.proofs.Outcomes.{free, prints, done_not_free, not_rose, none_put, completed}

-- an answer whose lines are put
module _ (answer : Result Printed Status) (a b : SinkView) where
  pub lines_whole : (p : Printed) → answer ≡ Ok p → PutsWhole a b p.lines.items (Ok tt) → PutsLines (printed_status answer) (printed_lines answer) a b p.status
  lines_whole p is h =
      let P : Result Printed Status → Type 0 = λ x. PutsLines (printed_status x) (printed_lines x) a b p.status in
      subst P (sym is) (ArePut (prints a b p.lines.items (Ok tt) h) h.whole)

  pub lines_cut : (p : Printed) (t : Status) (failed : Failed) → answer ≡ Ok p → PutsWhole a b p.lines.items (Err failed) → CutsOff p.status t → PutsLines (printed_status answer) (printed_lines answer) a b t
  lines_cut p t failed is h cuts =
      let P : Result Printed Status → Type 0 = λ x. PutsLines (printed_status x) (printed_lines x) a b t in
      subst P (sym is) (AreCut t (prints a b p.lines.items (Err failed) h) h.cause cuts)

  pub line_put : (s : Status) → answer ≡ Err s → Prints (line_of s) a b → PutsLines (printed_status answer) (printed_lines answer) a b s
  line_put s is h =
      let P : Result Printed Status → Type 0 = λ x. PutsLines (printed_status x) (printed_lines x) a b s in
      subst P (sym is) (AreOwn refl h)

module _ (c : Command) (writing : writes c ≡ None) (u v : StoreView) (a b : SinkView) where
  kept : (s : Status) (lines : List ℕ) → LinesFor c u v s lines → Prints lines a b → (s ≡ Done → PutsAll lines a b) → Promise c u v a b s
  kept s lines h p all =
      let C : Option (List ℕ) → Type 0 = λ o. WriteCause o (λ files. IsAsked c files Done) u v a b in
      let L : Option (List ℕ) → Type 0 = λ o. AreLines o (Outcome c) u.files s lines in
      let S : Option (List ℕ) → Type 0 = λ o. Turns u.files v.files (Leaves o (Makes c) s) in
      record {
        later = h.later;
        not_usage = h.not_usage;
        exact = h.told;
        read_fault = h.read_fault;
        write_fault = λ e. absurd (h.not_write_fault e);
        complete = λ files e asked quiet quiet_write. completed c u v s h.told h.read_fault files e asked quiet h.not_write_fault;
        store = subst S (sym writing) (turns_same (Leaves None (Makes c) s) (λ files name. refl) u.files v.files h.same_files);
        sink = record { lines = lines; are = subst L (sym writing) (h.shows, h.outcome); prints = p; done = all };
      }

  failed : (lines : List ℕ) → LinesFor c u v Done lines → Prints lines a b → Rose a.faults b.faults → Promise c u v a b WriteFault
  failed lines h p rose =
      let C : Option (List ℕ) → Type 0 = λ o. WriteCause o (λ files. IsAsked c files Done) u v a b in
      let Q : Option (List ℕ) → Type 0 = λ o. IsQuietFor o u v a b in
      let L : Option (List ℕ) → Type 0 = λ o. AreLines o (Outcome c) u.files WriteFault lines in
      let S : Option (List ℕ) → Type 0 = λ o. Turns u.files v.files (Leaves o (Makes c) WriteFault) in
      record {
        later = h.later;
        not_usage = λ e. cc;
        exact = λ files e. free c files WriteFault ByWriteFault;
        read_fault = λ e. absurd (cc);
        write_fault = λ e. subst C (sym writing) (rose, λ files f. done_not_free (h.told files f).only);
        complete = λ files e asked quiet quiet_write. absurd (not_rose a.faults b.faults (subst Q writing quiet_write) rose);
        store = subst S (sym writing) (turns_same (Leaves None (Makes c) WriteFault) (λ files name. refl) u.files v.files h.same_files);
        sink = record { lines = lines; are = subst L (sym writing) (tt, h.outcome); prints = p; done = λ e. absurd (cc) };
      }

  cut : (s t : Status) (lines : List ℕ) → LinesFor c u v s lines → Prints lines a b → Rose a.faults b.faults → CutsOff s t → Promise c u v a b t
  cut s t lines h p rose ByFault = failed lines h p rose
  cut s t lines h p rose (Stays r not_done) = kept r lines h p (λ e. absurd (not_done e))

  own : (s : Status) (lines : List ℕ) → lines ≡ line_of s → Prints lines a b → s ≡ Done → PutsAll lines a b
  own s lines is p e = none_put lines a b (let P : Status → Type 0 = λ t. lines ≡ line_of t in subst P e is) p

  pub lines_kept : (s t : Status) (lines : List ℕ) → LinesFor c u v s lines → PutsLines s lines a b t → Promise c u v a b t
  lines_kept s t lines h (ArePut p all) = kept s lines h p (λ e. all)
  lines_kept s t lines h (AreCut r p rose cuts) = cut s r lines h p rose cuts
  lines_kept s t lines h (AreOwn is p) = kept s lines h p (own s lines is p)
