-- Runs of one system.
use Rattle.std.proofs.Common.{◌≡◌, List, [], ◌∷◌, ◌++◌, refl, sym, ap, ◌∙◌, append_assoc}
use Rattle.tso_core.specs.declared.Step.{Step}
use Rattle.tso_core.specs.Systems.{System, Status, Running, Exited, Wrong, NoHeap, NoStack, after, shown, IsRun, next, events_of}

pub after-append : (m : System) (s : m.State) (xs ys : List Step) → after m s (xs ++ ys) ≡ after m (after m s xs) ys
after-append m s [] ys = refl
after-append m s (x ∷ xs) ys = after-append m (next m s x) xs ys

pub shown-append : (m : System) (s : m.State) (xs ys : List Step) → shown m s (xs ++ ys) ≡ shown m s xs ++ shown m (after m s xs) ys
shown-append m s [] ys = refl
shown-append m s (x ∷ xs) ys =
    ap (λ l. events_of (m.step s x) ++ l) (shown-append m (next m s x) xs ys)
    ∙ sym (append_assoc (events_of (m.step s x)) (shown m (next m s x) xs) (shown m (after m (next m s x) xs) ys))

pub front_runs : (m : System) (s : m.State) (xs ys : List Step) → IsRun m s (xs ++ ys) → IsRun m s xs
front_runs m s [] ys h = tt
front_runs m s (x ∷ xs) ys h = (h.0, front_runs m (next m s x) xs ys h.1)

pub back_runs : (m : System) (s : m.State) (xs ys : List Step) → IsRun m s (xs ++ ys) → IsRun m (after m s xs) ys
back_runs m s [] ys h = h
back_runs m s (x ∷ xs) ys h = back_runs m (next m s x) xs ys h.1

pub joins_run : (m : System) (s : m.State) (xs ys : List Step) → IsRun m s xs → IsRun m (after m s xs) ys → IsRun m s (xs ++ ys)
joins_run m s [] ys h g = g
joins_run m s (x ∷ xs) ys h g = (h.0, joins_run m (next m s x) xs ys h.1 g)

-- each end is reached or not
pub dec_wrong : (s : Status) → Dec (s ≡ Wrong)
dec_wrong Running = no (λ e. cc)
dec_wrong Exited = no (λ e. cc)
dec_wrong Wrong = yes refl
dec_wrong NoHeap = no (λ e. cc)
dec_wrong NoStack = no (λ e. cc)

pub dec_no_stack : (s : Status) → Dec (s ≡ NoStack)
dec_no_stack Running = no (λ e. cc)
dec_no_stack Exited = no (λ e. cc)
dec_no_stack Wrong = no (λ e. cc)
dec_no_stack NoHeap = no (λ e. cc)
dec_no_stack NoStack = yes refl
