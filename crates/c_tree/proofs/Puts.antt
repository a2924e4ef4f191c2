-- The text of what holds a vector or a struct, by what the code sees of it.
use Rattle.std.proofs.Common.{◌≡◌, ℕ, zero, suc, ◌+◌, ◌<◌, List, [], ◌∷◌, length, get_or, drop, sym, ◌∙◌, ap, arith}
use Rattle.c_tree.specs.declared.expr.Member.{Member}
use Rattle.c_tree.specs.Trees.{MemberTrees}
use Rattle.c_tree.specs.Shape.{member_onto, members_of}
use Rattle.c_tree.specs.Printing.{Text, put_members}
use Rattle.c_tree.specs.Writing.{put_member}
use Rattle.c_tree.proofs.Shapes.{member_shape}

pub member_put : (m : Member) (r : MemberTrees) (t : Text) → put_members (member_onto m r) t ≡ put_members r (put_member m t)
member_put m r t = ap (λ x. put_members x t) (member_shape m r)

members_at : (list : List Member) (i : ℕ) (m : Member) (t : Text) → i < length list → m ≡ get_or list i m → put_members (members_of (drop i list)) t ≡ put_members (members_of (drop (suc i) list)) (put_member m t)
members_at [] i m t lt e = absurd (omega arith)
members_at (x ∷ xs) zero m t lt e = member_put x (members_of xs) t ∙ ap (λ y. put_members (members_of xs) (put_member y t)) (sym e)
members_at (x ∷ xs) (suc i) m t lt e = members_at xs i m t (omega arith) e

-- one member and then the others
pub members_next : (list : List Member) (i : ℕ) (m : Member) (old new all : Text) → i < length list → m ≡ get_or list i m → new ≡ put_member m old → put_members (members_of (drop i list)) old ≡ all → put_members (members_of (drop (i + 1) list)) new ≡ all
members_next list i m old new all lt e step whole =
    let next : i + 1 ≡ suc i = omega arith in
    ap (λ k. put_members (members_of (drop k list)) new) next ∙ ap (put_members (members_of (drop (suc i) list))) step ∙ sym (members_at list i m old lt e) ∙ whole
