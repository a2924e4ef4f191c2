-- One parameter or local more that is taken, kept or in memory.
use Rattle.std.proofs.Common.{◌≡◌, ℕ, ◌+◌, ◌<◌, List, [], ◌∷◌, ◌++◌, length, get_or, take, append_assoc, refl, sym, ap, ◌∙◌}
use Rattle.std.specs.Prelude.{unwrap_or, slice_get, sum_by}
use Rattle.std.proofs.lemmas.List.{take_more}
use Rattle.std.proofs.lemmas.List.Sums.{sum_by_push}
use Rattle.clight_lang.specs.declared.function.Local.{Local}
use Rattle.clight_lang.specs.declared.function.Taken.{Taken}
use Rattle.clight_lang.specs.declared.function.Kept.{Kept}
use Rattle.clight_types.specs.declared.kind.Value.{Value}
use Rattle.clight_types.specs.Types.{value_at}
use Rattle.clight_placing.specs.Placing.{Location, Inner}
use Rattle.clight_files.specs.Files.{FunctionMade}
use Rattle.clight_meaning.specs.Meaning.{below, taken_at, taken_from, kept_at, kept_from}
use Rattle.clight_programs.specs.Locals.{local_at, locals_at}
use Rattle.clight_programs.proofs.Walks.{next_is, append_end}

-- nothing more
pub none_put : {A : Type 0} (now : List A) → now ≡ now ++ []
none_put now = sym (append_end now)

below_next : (n : ℕ) → below (n + 1) ≡ below n ++ n ∷ []
below_next n = ap below (next_is n)

module _ (w : Inner) where
  taken_push : (ns : List ℕ) (n : ℕ) → taken_from w (ns ++ n ∷ []) ≡ taken_from w ns ++ taken_at n (w.location n)
  taken_push [] n = append_end (taken_at n (w.location n))
  taken_push (m ∷ ns) n = ap (λ r. taken_at m (w.location m) ++ r) (taken_push ns n) ∙ sym (append_assoc (taken_at m (w.location m)) (taken_from w ns) (taken_at n (w.location n)))

  pub taken_next : (n : ℕ) (l : Location) (now new : List Taken) → l ≡ w.location n → new ≡ now ++ taken_at n l → now ≡ taken_from w (below n) → new ≡ taken_from w (below (n + 1))
  taken_next n l now new place step known =
      step ∙ ap (λ x. now ++ taken_at n x) place ∙ ap (λ x. x ++ taken_at n (w.location n)) known
      ∙ sym (taken_push (below n) n) ∙ sym (ap (taken_from w) (below_next n))

  module _ (f : FunctionMade) where
    abbrev kept_here : ℕ → Location → List Kept
    kept_here n l = kept_at (value_at w.types (unwrap_or (slice_get f.locals n) 0)) n l

    kept_push : (ns : List ℕ) (n : ℕ) → kept_from w f (ns ++ n ∷ []) ≡ kept_from w f ns ++ kept_here n (w.location n)
    kept_push [] n = append_end (kept_here n (w.location n))
    kept_push (m ∷ ns) n = ap (λ r. kept_here m (w.location m) ++ r) (kept_push ns n) ∙ sym (append_assoc (kept_here m (w.location m)) (kept_from w f ns) (kept_here n (w.location n)))

    pub kept_next : (n : ℕ) (l : Location) (v : Value) (now new : List Kept) → v ≡ value_at w.types (unwrap_or (slice_get f.locals n) 0) → l ≡ w.location n → new ≡ now ++ kept_at v n l → now ≡ kept_from w f (below n) → new ≡ kept_from w f (below (n + 1))
    kept_next n l v now new value place step known =
        step ∙ ap (λ y. now ++ kept_at y n l) value ∙ ap (λ x. now ++ kept_here n x) place ∙ ap (λ x. x ++ kept_here n (w.location n)) known
        ∙ sym (kept_push (below n) n) ∙ sym (ap (kept_from w f) (below_next n))

  module _ (ts : List ℕ) where
    abbrev local_here : ℕ → Location → List Local
    local_here n l = local_at w.types (unwrap_or (slice_get ts n) 0) l

    local_push : (ns : List ℕ) (n : ℕ) → locals_at w ts (ns ++ n ∷ []) ≡ locals_at w ts ns ++ local_here n (w.location n)
    local_push [] n = append_end (local_here n (w.location n))
    local_push (m ∷ ns) n = ap (λ r. local_here m (w.location m) ++ r) (local_push ns n) ∙ sym (append_assoc (local_here m (w.location m)) (locals_at w ts ns) (local_here n (w.location n)))

    pub local_next : (n : ℕ) (l : Location) (t : ℕ) (now new : List Local) → t ≡ unwrap_or (slice_get ts n) 0 → l ≡ w.location n → new ≡ now ++ local_at w.types t l → now ≡ locals_at w ts (below n) → new ≡ locals_at w ts (below (n + 1))
    local_next n l t now new type place step known =
        step ∙ ap (λ y. now ++ local_at w.types y l) type ∙ ap (λ x. now ++ local_here n x) place ∙ ap (λ x. x ++ local_here n (w.location n)) known
        ∙ sym (local_push (below n) n) ∙ sym (ap (locals_at w ts) (below_next n))

-- the bytes of one local more
pub size_next : (now new : ℕ) (list : List Local) (i : ℕ) (x : Local) → i < length list → x ≡ get_or list i x → new ≡ now + x.size → now ≡ sum_by (λ (l : Local). l.size) (take i list) → new ≡ sum_by (λ (l : Local). l.size) (take (i + 1) list)
size_next now new list i x within is step known =
    step ∙ ap (λ n. n + x.size) known
    ∙ sym (sum_by_push (λ (l : Local). l.size) (take i list) x)
    ∙ sym (ap (sum_by (λ (l : Local). l.size)) (take_more list i x within ∙ ap (λ y. take i list ++ y ∷ []) (sym is)))
