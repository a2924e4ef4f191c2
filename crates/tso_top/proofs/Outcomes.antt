-- From how a file is read to the outcome that the files ask for.
use Rattle.std.proofs.Common.{◌≡◌, ◌≢◌, ℕ, List, [], ◌++◌, refl, sym, ap, subst, Option, Some, None, Result, Ok, Err, inl, inr, ◌⊎◌, Vec, Global, arith}
use Rattle.std.proofs.lemmas.List.{append-nil}
use Rattle.std.specs.Option.{ForSome}
use Rattle.std.specs.Prelude.{MatchOption, ◌↔◌, ◌≤◌, length}
use Rattle.first_form.specs.Form.{TenTokens}
use Rattle.clight_lang.specs.MainAlone.{returned}
use Rattle.clight_front.proofs.FormMeans.{form_program}
use Rattle.tso_outside.specs.Views.{Files, held, StoreView, SinkView, Rose, ReadCause}
use Rattle.tso_outside.specs.declared.outside.Failed.{Failed}
use Rattle.tso_status.specs.declared.status.Status.{Status}
use Rattle.tso_status.specs.declared.status.Status.TheVariants.{Done, Usage, ReadFault, WriteFault, TooLong, NoMemory}
use Rattle.tso_files.specs.declared.whole.ReadRefusal.{ReadRefusal}
use Rattle.tso_files.specs.declared.whole.ReadRefusal.TheVariants as refusal
use Rattle.tso_status.specs.Statuses.{line_of}
use Rattle.tso_top.specs.Commands.{Command, Compile, Source, Target, Outcome, Reading, Missing, Passes, Within, ReadingBoth, IsProgram, IsBuilt, Compiling, Sourcing, source_limit, text_limit}
use Rattle.tso_top.specs.Replays.{Targeting}
use Rattle.tso_top.specs.Promise.{Promise, Refuses, IsQuiet, IsFree, ByReadFault, ByWriteFault, ByNoMemory, Exactly, IsAsked, IsMissing, Prints, PutsAll}
use Rattle.tso_files.specs.Whole.{IsWhole, ReadsWhole, PutsWhole}
use Rattle.tso_files.proofs.Causes.{turns_same}
use Rattle.tso_top.specs.Answers.{status_of}

-- a file that is read and found within its limit leads to what its bytes lead to
module _ (limit : ℕ) (next : List ℕ → Status → List ℕ → Type 0) where
  pub only_too_long : (o : Option (List ℕ)) → IsWhole o limit (Err refusal.TooLong) → Reading limit next o TooLong (line_of TooLong)
  only_too_long None long = absurd long
  only_too_long (Some bytes) long = Passes bytes long

  pub only_within : (o : Option (List ℕ)) (read : Vec ℕ Global) (s : Status) (lines : List ℕ) → IsWhole o limit (Ok read) → next read.items s lines → Reading limit next o s lines
  only_within None read s lines whole rest = absurd whole
  only_within (Some bytes) read s lines whole rest = Within bytes s lines whole.1 (subst (λ b. next b s lines) whole.0 rest)

  -- a refused read
  pub only_refused : (o : Option (List ℕ)) (r : ReadRefusal) → IsWhole o limit (Err r) → IsFree (status_of r) ⊎ Reading limit next o (status_of r) (line_of (status_of r))
  only_refused o refusal.ReadFault whole = inl ByReadFault
  only_refused o refusal.NoMemory whole = inl ByNoMemory
  only_refused o refusal.TooLong whole = inr (only_too_long o whole)

  -- a file that leads to Done is there
  there : (o : Option (List ℕ)) (s : Status) (lines : List ℕ) → Reading limit next o s lines → s ≡ Done → o ≡ None → ⊥
  there o s lines Missing e none = cc
  there o s lines (Passes bytes passes) e none = cc
  there o s lines (Within bytes status printed within rest) e none = cc

-- of two that lead to Done the second is there too
both_there : (limit limit_of_second : ℕ) (next : List ℕ → List ℕ → Status → List ℕ → Type 0) (o p : Option (List ℕ)) (s : Status) (lines : List ℕ) → ReadingBoth limit limit_of_second next o p s lines → s ≡ Done → p ≡ None → ⊥
both_there limit other next o p s lines Missing e none = cc
both_there limit other next o p s lines (Passes bytes passes) e none = cc
both_there limit other next o p s lines (Within bytes status printed within rest) e none = there other (next bytes) p status printed rest e none

pub free : (c : Command) (files : Files) (s : Status) → IsFree s → Exactly c files s
free c files s f = record { must = λ t lines outcome. inl f; only = inl f }

-- what is free is one of three
free_is : (s : Status) → IsFree s → (s ≡ ReadFault) ⊎ ((s ≡ WriteFault) ⊎ (s ≡ NoMemory))
free_is s ByReadFault = inl refl
free_is s ByWriteFault = inr (inl refl)
free_is s ByNoMemory = inr (inr refl)

not_free : (s : Status) → s ≢ ReadFault → s ≢ WriteFault → s ≢ NoMemory → {A : Type 0} → IsFree s ⊎ A → A
not_free s a b c o = elim o [ inr x ↦ x | inl f ↦ absurd (elim (free_is s f) [ inl e ↦ a e | inr more ↦ elim more [ inl e ↦ b e | inr e ↦ c e ] ]) ]

pub done_not_free : {A : Type 0} → IsFree Done ⊎ A → A
done_not_free o = not_free Done (λ e. cc) (λ e. cc) (λ e. cc) o

-- a count that is quiet did not rise
pub not_rose : (a b : ℕ) → IsQuiet a b → Rose a b → ⊥
not_rose a b quiet rose = let h = quiet.same in let k = quiet.not_last in omega arith

-- lines that are put on a sink whole are printed
pub prints : (u v : SinkView) (lines : List ℕ) (r : Result (Unit {0}) Failed) → PutsWhole u v lines r → Prints lines u v
prints u v lines (Ok done) a = record { later = a.later; prefix = a.prefix; whole = λ quiet. a.whole; nothing = a.nothing }
prints u v lines (Err failed) a = record { later = a.later; prefix = a.prefix; whole = λ quiet. absurd (not_rose u.faults v.faults quiet a.cause); nothing = a.nothing }

-- where there are no lines, all are put
pub none_put : (lines : List ℕ) (a b : SinkView) → lines ≡ [] → Prints lines a b → PutsAll lines a b
none_put lines a b none p =
    let P : List ℕ → Type 0 = λ ls. PutsAll ls a b in
    let Q : SinkView → Type 0 = λ s. PutsAll [] a s in
    subst P (sym none) (subst Q (sym (p.nothing none)) (turns_same (λ old new. new ≡ old ++ []) (λ old. sym (append-nil old)) a.bytes a.bytes refl))

-- where the files ask for Done, none that the command reads is missing
not_missing : (c : Command) (files : Files) (lines : List ℕ) → Outcome c files Done lines → IsMissing c files → ⊥
not_missing (Compile i o) files lines outcome missing = elim missing [ inl none ↦ there source_limit Compiling (held files i) Done lines outcome refl none | inr more ↦ more ]
not_missing (Source i j) files lines outcome missing = elim missing [
  | inl none ↦ there source_limit (λ a s ls. Reading text_limit (Sourcing a) (held files j) s ls) (held files i) Done lines outcome refl none
  | inr more ↦ elim more [ inl none ↦ both_there source_limit text_limit Sourcing (held files i) (held files j) Done lines outcome refl none | inr nothing ↦ nothing ]
]
not_missing (Target i j) files lines outcome missing = elim missing [
  | inl none ↦ there text_limit (λ a s ls. Reading text_limit (Targeting a) (held files j) s ls) (held files i) Done lines outcome refl none
  | inr more ↦ elim more [ inl none ↦ both_there text_limit text_limit Targeting (held files i) (held files j) Done lines outcome refl none | inr nothing ↦ nothing ]
]

complete_free : (c : Command) (u w : StoreView) (files : Files) (s : Status) → IsFree s → u.files ≡ Some files → (IsMissing c files → ⊥) → (s ≡ ReadFault → ReadCause (IsMissing c) u w) → IsQuiet u.read_faults w.read_faults → (s ≡ WriteFault → ⊥) → (s ≡ Done) ⊎ (s ≡ NoMemory)
complete_free c u w files s ByReadFault e none cause quiet no_write = absurd (elim (cause refl) [ inl rose ↦ not_rose u.read_faults w.read_faults quiet rose | inr missed ↦ none (missed.1 files e) ])
complete_free c u w files s ByWriteFault e none cause quiet no_write = absurd (no_write refl)
complete_free c u w files s ByNoMemory e none cause quiet no_write = inr refl

pub completed : (c : Command) (u w : StoreView) (s : Status) → ForSome u.files (λ files. Exactly c files s) → (s ≡ ReadFault → ReadCause (IsMissing c) u w) → (files : Files) → u.files ≡ Some files → IsAsked c files Done → IsQuiet u.read_faults w.read_faults → (s ≡ WriteFault → ⊥) → (s ≡ Done) ⊎ (s ≡ NoMemory)
completed c u w s exact cause files e asked quiet no_write = elim ((exact files e).must Done asked.0 asked.1) [
  | inl f ↦ complete_free c u w files s f e (not_missing c files asked.0 asked.1) cause quiet no_write
  | inr same ↦ inl same
]

-- the status of a refused read
pub refused_not_usage : (r : ReadRefusal) → status_of r ≡ Usage → ⊥
refused_not_usage refusal.ReadFault e = cc
refused_not_usage refusal.TooLong e = cc
refused_not_usage refusal.NoMemory e = cc

pub refused_not_write : (r : ReadRefusal) → status_of r ≡ WriteFault → ⊥
refused_not_write refusal.ReadFault e = cc
refused_not_write refusal.TooLong e = cc
refused_not_write refusal.NoMemory e = cc

pub refused_not_done : (r : ReadRefusal) → status_of r ≡ Done → ⊥
refused_not_done refusal.ReadFault e = cc
refused_not_done refusal.TooLong e = cc
refused_not_done refusal.NoMemory e = cc

refused_fault : (r : ReadRefusal) → status_of r ≡ ReadFault → r ≡ refusal.ReadFault
refused_fault refusal.ReadFault e = refl
refused_fault refusal.TooLong e = absurd (cc)
refused_fault refusal.NoMemory e = absurd (cc)

one_missing : (i : List ℕ) (c : Command) (u v : StoreView) → ((files : Files) → held files i ≡ None → IsMissing c files) → ReadCause (λ files. held files i ≡ None) u v → ReadCause (IsMissing c) u v
one_missing i c u v is cause = elim cause [ inl rose ↦ inl rose | inr missed ↦ inr (missed.0, λ files e. is files (missed.1 files e)) ]

pub refused_cause : (c : Command) (name : List ℕ) (limit : ℕ) (u v : StoreView) (r : ReadRefusal) → ((files : Files) → held files name ≡ None → IsMissing c files) → ReadsWhole u v name limit (Err r) → status_of r ≡ ReadFault → ReadCause (IsMissing c) u v
refused_cause c name limit u v r is a e = one_missing name c u v is (a.cause (ap Err (refused_fault r e)))

-- Usage comes exactly where the words are no command
pub usage_exactly : (o : Option Command) (u w : StoreView) (a b : SinkView) (s : Status) → MatchOption o (Refuses u w a b s) (λ c. Promise c u w a b s) → (s ≡ Usage) ↔ (o ≡ None)
usage_exactly None u w a b s h = (λ e. refl, λ e. h.usage)
usage_exactly (Some c) u w a b s h = (λ e. absurd (h.not_usage e), λ e. absurd (cc))

-- a file of the form has a program, and asks for Done
pub form_asks : (files : Files) (input output bytes : List ℕ) (n : ℕ) → held files input ≡ Some bytes → length bytes ≤ source_limit → TenTokens bytes n → Outcome (Compile input output) files Done []
form_asks files input output bytes n here short h =
    let P : Option (List ℕ) → Type 0 = λ o. Reading source_limit Compiling o Done [] in
    subst P (sym here) (Within bytes Done [] short (IsProgram (returned n) Done [] (form_program bytes n h) (IsBuilt n h)))
