-- Lists of statements, put together from both ends.
use Rattle.std.proofs.Common.{◌≡◌, ℕ, suc, ◌+◌, List, [], ◌∷◌, ◌++◌, length, map, refl, sym, ap, ◌∙◌, arith}
use Rattle.std.specs.declared.alloc.Global.{Global}
use Rattle.std.specs.declared.rc.Rc.{Rc}
use Rattle.clight_lang.specs.declared.statement.Stmt.{Stmt}
use Rattle.clight_lang.specs.Syntax.{Statement, Statements, Nil, Cons}
use Rattle.clight_placing.specs.Placing.{both, count_statements}
use Rattle.clight_placing.specs.Listed.{listed, shared_of}

pub both_nil : (l : Statements) → both l Nil ≡ l
both_nil Nil = refl
both_nil (Cons s l) = ap (Cons s) (both_nil l)

pub both_both : (a b c : Statements) → both (both a b) c ≡ both a (both b c)
both_both Nil b c = refl
both_both (Cons s a) b c = ap (Cons s) (both_both a b c)

-- one statement more behind the others
pub pushed : (xs : List (Rc Stmt Global)) (x : Rc Stmt Global) → listed (map shared_of (xs ++ x ∷ [])) ≡ both (listed (map shared_of xs)) (Cons (shared_of x) Nil)
pushed [] x = refl
pushed (y ∷ ys) x = ap (Cons (shared_of y)) (pushed ys x)

pub pushed_onto : (xs : List (Rc Stmt Global)) (x : Rc Stmt Global) (l : Statements) → both (listed (map shared_of (xs ++ x ∷ []))) l ≡ both (listed (map shared_of xs)) (Cons (shared_of x) l)
pushed_onto [] x l = refl
pushed_onto (y ∷ ys) x l = ap (Cons (shared_of y)) (pushed_onto ys x l)

pub count_listed : (xs : List (Rc Stmt Global)) → count_statements (listed (map shared_of xs)) ≡ length xs
count_listed [] = refl
count_listed (x ∷ xs) = ap suc (count_listed xs)

pub count_both : (a b : Statements) → count_statements (both a b) ≡ count_statements a + count_statements b
count_both Nil b = omega arith
count_both (Cons s a) b = let more : count_statements (both a b) ≡ count_statements a + count_statements b = count_both a b in omega arith
