-- What `compile` answers, from how its file was read and what its bytes compile to.
use Rattle.std.proofs.Common.{◌≡◌, ◌≢◌, ℕ, List, [], sym, ◌∙◌, ap, subst, Option, Some, None, Result, Ok, Err, inl, inr, Vec, Global}
use Rattle.clight_lang.specs.Meaning.{ProgramOf}
use Rattle.clight_front.specs.Fronts.{HasProgram, Fronts}
use Rattle.clight_front.specs.declared.fronts.FrontRefusal.{FrontRefusal}
use Rattle.clight_front.specs.declared.fronts.FrontRefusal.TheVariants as front
use Rattle.first_form.specs.Form.{TenTokens}
use Rattle.tso_outside.specs.Views.{held, StoreView}
use Rattle.tso_files.specs.declared.whole.ReadRefusal.{ReadRefusal}
use Rattle.tso_files.specs.Whole.{IsWhole, ReadsWhole}
use Rattle.tso_status.specs.declared.status.Status.{Status}
use Rattle.tso_status.specs.declared.status.Status.TheVariants.{Done, Usage, ReadFault, WriteFault, Syntax, TooDeep, Types, TooLarge, NoMemory, NotBuilt}
use Rattle.tso_status.specs.Statuses.{line_of}
use Rattle.tso_top.specs.declared.compile.CompileRefusal.{CompileRefusal}
use Rattle.tso_top.specs.declared.compile.CompileRefusal.TheVariants as failing
use Rattle.tso_top.specs.Commands.{Compile, Compiling, IsNoFile, IsTooDeep, IsFaulty, IsTooLarge, IsProgram, IsBuilt, IsNotBuilt, source_limit}
use Rattle.tso_top.specs.Promise.{ByNoMemory}
use Rattle.tso_top.specs.Compiles.{Compiles}
use Rattle.tso_top.specs.Answers.{TextFor, CompilesTo, IsConstant, IsText, status_of, refused_status}
use Rattle.tso_top.proofs.Outcomes.{only_within, only_refused, free, refused_not_usage, refused_not_write, refused_not_done, refused_cause}
use Rattle.tso_top.proofs.OneStatus.{exactly}

-- ## From the front end's answer to what the bytes lead to

pub is_compiled : (bytes : List ℕ) (p : ProgramOf) (text : Vec ℕ Global) → HasProgram bytes p → ((n : ℕ) × TenTokens bytes n) × Compiles bytes text.items → CompilesTo bytes (Ok text)
is_compiled bytes p text has c = (c.1, IsProgram p Done [] has (IsBuilt c.0.0 c.0.1))

pub is_not_built : (bytes : List ℕ) (p : ProgramOf) → HasProgram bytes p → ((n : ℕ) → TenTokens bytes n → ⊥) → CompilesTo bytes (Err failing.NotBuilt)
is_not_built bytes p has none = IsProgram p NotBuilt (line_of NotBuilt) has (IsNotBuilt none)

pub is_no_program : (bytes : List ℕ) (r : FrontRefusal) → Fronts bytes (Err r) → CompilesTo bytes (Err (failing.Front r))
is_no_program bytes (front.Syntax at) h = IsNoFile at h
is_no_program bytes (front.TooDeep at) h = IsTooDeep at h
is_no_program bytes (front.Types rule at) h = IsFaulty rule at h
is_no_program bytes (front.TooLarge count at) h = IsTooLarge count at h
is_no_program bytes front.NoMemory h = tt

-- the text of a file of the form
pub text_is : (bytes : List ℕ) (o : Option (Vec ℕ Global)) (text : Vec ℕ Global) → o ≡ Some text → IsText bytes o → ((n : ℕ) × TenTokens bytes n) × Compiles bytes text.items
text_is bytes o text is h = let P : Option (Vec ℕ Global) → Type 0 = λ x. IsText bytes x in subst P is h

pub no_text : (bytes : List ℕ) (o : Option (Vec ℕ Global)) → o ≡ None → IsText bytes o → (n : ℕ) → TenTokens bytes n → ⊥
no_text bytes o is h = let P : Option (Vec ℕ Global) → Type 0 = λ x. IsText bytes x in subst P is h

pub constant_is : (bytes : List ℕ) (o : Option ℕ) (n : ℕ) → o ≡ Some n → IsConstant bytes o → TenTokens bytes n
constant_is bytes o n is h = let P : Option ℕ → Type 0 = λ x. IsConstant bytes x in subst P is h

-- ## From there to the answer of the command

whole_is : (h : Option (List ℕ)) (bytes : Vec ℕ Global) → IsWhole h source_limit (Ok bytes) → h ≡ Some bytes.items
whole_is None bytes whole = absurd whole
whole_is (Some b) bytes whole = ap Some (sym whole.0)

module _ (i o : List ℕ) (u v : StoreView) where
  pub compile_told : (bytes text : Vec ℕ Global) → ReadsWhole u v i source_limit (Ok bytes) → CompilesTo bytes.items (Ok text) → TextFor (Compile i o) u v (Ok text)
  compile_told bytes text a compiled = record {
    later = a.later;
    same_files = a.same_files;
    told = λ files e. exactly (Compile i o) files Done [] (only_within source_limit Compiling (held files i) bytes Done [] (a.told files e) compiled.1);
    made = λ files e. (bytes.items, whole_is (held files i) bytes (a.told files e), compiled.0);
    read_fault = λ e. absurd (cc);
    not_done = λ s e. absurd (cc);
    not_usage = λ e. cc;
    not_write_fault = λ e. cc;
  }

  -- a status that the bytes ask for, and that no fault and no work done gives
  asked : (bytes : Vec ℕ Global) (s : Status) → ReadsWhole u v i source_limit (Ok bytes) → Compiling bytes.items s (line_of s) → s ≢ Done → s ≢ Usage → s ≢ ReadFault → s ≢ WriteFault → TextFor (Compile i o) u v (Err s)
  asked bytes s a compiling not_done not_usage not_read not_write = record {
    later = a.later;
    same_files = a.same_files;
    told = λ files e. exactly (Compile i o) files s (line_of s) (only_within source_limit Compiling (held files i) bytes s (line_of s) (a.told files e) compiling);
    made = λ files e. not_done;
    read_fault = λ e. absurd (not_read e);
    not_done = λ t e d. not_done (let k : s ≡ t = cc in k ∙ d);
    not_usage = not_usage;
    not_write_fault = not_write;
  }

  compile_no_memory : {r : Result (Vec ℕ Global) ReadRefusal} → ReadsWhole u v i source_limit r → TextFor (Compile i o) u v (Err NoMemory)
  compile_no_memory a = record {
    later = a.later;
    same_files = a.same_files;
    told = λ files e. free (Compile i o) files NoMemory ByNoMemory;
    made = λ files e d. cc;
    read_fault = λ e. absurd (cc);
    not_done = λ s e d. (let k : NoMemory ≡ s = cc in cc);
    not_usage = λ e. cc;
    not_write_fault = λ e. cc;
  }

  failed : (bytes : Vec ℕ Global) (r : CompileRefusal) → ReadsWhole u v i source_limit (Ok bytes) → CompilesTo bytes.items (Err r) → TextFor (Compile i o) u v (Err (refused_status r))
  failed bytes (failing.Front (front.Syntax at)) a h = asked bytes (Syntax at) a h (λ e. cc) (λ e. cc) (λ e. cc) (λ e. cc)
  failed bytes (failing.Front (front.TooDeep at)) a h = asked bytes (TooDeep at) a h (λ e. cc) (λ e. cc) (λ e. cc) (λ e. cc)
  failed bytes (failing.Front (front.Types rule at)) a h = asked bytes (Types rule at) a h (λ e. cc) (λ e. cc) (λ e. cc) (λ e. cc)
  failed bytes (failing.Front (front.TooLarge count at)) a h = asked bytes (TooLarge count at) a h (λ e. cc) (λ e. cc) (λ e. cc) (λ e. cc)
  failed bytes (failing.Front front.NoMemory) a h = compile_no_memory a
  failed bytes failing.NotBuilt a h = asked bytes NotBuilt a h (λ e. cc) (λ e. cc) (λ e. cc) (λ e. cc)

  pub compile_failed : (bytes : Vec ℕ Global) (r : CompileRefusal) (s : Status) → s ≡ refused_status r → ReadsWhole u v i source_limit (Ok bytes) → CompilesTo bytes.items (Err r) → TextFor (Compile i o) u v (Err s)
  compile_failed bytes r s is a h = let P : Status → Type 0 = λ t. TextFor (Compile i o) u v (Err t) in subst P (sym is) (failed bytes r a h)

  pub compile_refused : (r : ReadRefusal) (s : Status) → s ≡ status_of r → ReadsWhole u v i source_limit (Err r) → TextFor (Compile i o) u v (Err s)
  compile_refused r s is a =
      let P : Status → Type 0 = λ t. TextFor (Compile i o) u v (Err t) in
      subst P (sym is) (record {
        later = a.later;
        same_files = a.same_files;
        told = λ files e. elim (only_refused source_limit Compiling (held files i) r (a.told files e)) [ inl f ↦ free (Compile i o) files (status_of r) f | inr outcome ↦ exactly (Compile i o) files (status_of r) (line_of (status_of r)) outcome ];
        made = λ files e. refused_not_done r;
        read_fault = refused_cause (Compile i o) i source_limit u v r (λ files none. inl none) a;
        not_done = λ t e d. refused_not_done r (let k : status_of r ≡ t = cc in k ∙ d);
        not_usage = refused_not_usage r;
        not_write_fault = refused_not_write r;
      })
