-- Worked runs: lists of tokens that are files, and others with the number of tokens before the first that no file has there. Each was worked out from the grammar by hand.
use Rattle.std.proofs.Common.{◌≡◌, ℕ, Bool, true, false, List, [], ◌∷◌, Option, Some, None, refl, take, suc, not, ◌&&◌}
use Rattle.c_grammar.specs.Tokens.{Decimal, LogicalAnd, Ampersand, Less, Plus, Minus, Star, Not, Equals, PlusEquals, Increase, Decrease, Dot, Arrow, Void, Short, Int, Long, Float, Double, Signed, Unsigned, Const, Extern, Static, Typedef, Struct, Break, Continue, Kind, Name, Constant, Op, Assignment, Step, Member, TypeKeyword, Qualify, Storage, Composite, JumpWord, Inline, Enum, Sizeof, If, Else, While, Do, For, Switch, Case, Default, Return, LeftBrace, RightBrace, LeftParen, RightParen, LeftBracket, RightBracket, Semicolon, Comma, Question, Colon, Refused, Token, token}
use Rattle.c_grammar.specs.Machine.{State, feed, go, start, is_done}

-- tokens in a row, their places counted
abbrev tokens_from : ℕ → List Kind → List Token
tokens_from n [] = []
tokens_from n (t ∷ ts) = token t n ∷ tokens_from (suc n) ts

abbrev is_file : Option State → Bool
is_file None = false
is_file (Some s) = is_done s

abbrev is_read : Option State → Bool
is_read None = false
is_read (Some s) = true

abbrev are_files : List (List Kind) → Bool
are_files [] = true
are_files (ts ∷ rest) = is_file (go (Some start) (tokens_from 0 ts)) && are_files rest

-- the tokens before the given number begin a file, and with the next they begin none
abbrev stops_at : ℕ → List Kind → Bool
stops_at n ts = is_read (go (Some start) (tokens_from 0 (take n ts))) && not (is_read (go (Some start) (tokens_from 0 (take (suc n) ts))))

-- each of these is a file:
--   int x;
--   typedef int t; t x;
--   typedef int t; t *f(t, t y), x[1];
--   typedef int t; int f(void) { return (t) - 1; }
--   int t; int f(void) { return (t) - 1; }
--   struct s { int x, *y; } t, *f;
--   enum s { x, y = 1 ? 1 : 1, } t; enum s f;
--   int x[1] = { 1, 1, };
--   int f(void) { if (1) if (1) ; else ; }
--   int f(void) { switch (1) { case 1: case 1: ; default: break; case 1: } }
--   int f(void) { switch (x) { } }
--   int f(void) { for (int x = 1, y; x; ++x) do ; while (x--); }
--   int f(void) { for (;;) continue; while (1) { return; } }
--   int f(void) { x = y += - x ? 1 : y ? x : 1; }
--   int f(void) { x = sizeof (int) * 1 + sizeof (x)[1] + sizeof x; }
--   int (*f)(int (*)(int), void (*)[1]);
--   int f(int (x), int (int), int *const [1], int());
--   int *f(void) { }
--   long unsigned int x; unsigned long long y; int long long signed t; double long f;
--   const inline inline const static int x;
--   typedef int t, x[sizeof(t)];
--   typedef int t; struct t { int x; } y; int f(void) { y.x = x->t; }
--   int f(void, int); int g(const void);
--   int f(void) { & (int) x; (int) (int) x++; !x && -x < 1; }
--   int f(void) { x[1](1, y)(x).x++; }
--   int;
files_are_read : are_files (
    (TypeKeyword Int ∷ Name (120 ∷ []) ∷ Semicolon ∷ [])
    ∷ (Storage Typedef ∷ TypeKeyword Int ∷ Name (116 ∷ []) ∷ Semicolon ∷ Name (116 ∷ []) ∷ Name (120 ∷ []) ∷ Semicolon ∷ [])
    ∷ (Storage Typedef ∷ TypeKeyword Int ∷ Name (116 ∷ []) ∷ Semicolon ∷ Name (116 ∷ []) ∷ Op Star ∷ Name (102 ∷ []) ∷ LeftParen ∷ Name (116 ∷ []) ∷ Comma ∷ Name (116 ∷ []) ∷ Name (121 ∷ []) ∷ RightParen ∷ Comma ∷ Name (120 ∷ []) ∷ LeftBracket ∷ Constant (Decimal 1) ∷ RightBracket ∷ Semicolon ∷ [])
    ∷ (Storage Typedef ∷ TypeKeyword Int ∷ Name (116 ∷ []) ∷ Semicolon ∷ TypeKeyword Int ∷ Name (102 ∷ []) ∷ LeftParen ∷ TypeKeyword Void ∷ RightParen ∷ LeftBrace ∷ Return ∷ LeftParen ∷ Name (116 ∷ []) ∷ RightParen ∷ Op Minus ∷ Constant (Decimal 1) ∷ Semicolon ∷ RightBrace ∷ [])
    ∷ (TypeKeyword Int ∷ Name (116 ∷ []) ∷ Semicolon ∷ TypeKeyword Int ∷ Name (102 ∷ []) ∷ LeftParen ∷ TypeKeyword Void ∷ RightParen ∷ LeftBrace ∷ Return ∷ LeftParen ∷ Name (116 ∷ []) ∷ RightParen ∷ Op Minus ∷ Constant (Decimal 1) ∷ Semicolon ∷ RightBrace ∷ [])
    ∷ (Composite Struct ∷ Name (115 ∷ []) ∷ LeftBrace ∷ TypeKeyword Int ∷ Name (120 ∷ []) ∷ Comma ∷ Op Star ∷ Name (121 ∷ []) ∷ Semicolon ∷ RightBrace ∷ Name (116 ∷ []) ∷ Comma ∷ Op Star ∷ Name (102 ∷ []) ∷ Semicolon ∷ [])
    ∷ (Enum ∷ Name (115 ∷ []) ∷ LeftBrace ∷ Name (120 ∷ []) ∷ Comma ∷ Name (121 ∷ []) ∷ Assignment Equals ∷ Constant (Decimal 1) ∷ Question ∷ Constant (Decimal 1) ∷ Colon ∷ Constant (Decimal 1) ∷ Comma ∷ RightBrace ∷ Name (116 ∷ []) ∷ Semicolon ∷ Enum ∷ Name (115 ∷ []) ∷ Name (102 ∷ []) ∷ Semicolon ∷ [])
    ∷ (TypeKeyword Int ∷ Name (120 ∷ []) ∷ LeftBracket ∷ Constant (Decimal 1) ∷ RightBracket ∷ Assignment Equals ∷ LeftBrace ∷ Constant (Decimal 1) ∷ Comma ∷ Constant (Decimal 1) ∷ Comma ∷ RightBrace ∷ Semicolon ∷ [])
    ∷ (TypeKeyword Int ∷ Name (102 ∷ []) ∷ LeftParen ∷ TypeKeyword Void ∷ RightParen ∷ LeftBrace ∷ If ∷ LeftParen ∷ Constant (Decimal 1) ∷ RightParen ∷ If ∷ LeftParen ∷ Constant (Decimal 1) ∷ RightParen ∷ Semicolon ∷ Else ∷ Semicolon ∷ RightBrace ∷ [])
    ∷ (TypeKeyword Int ∷ Name (102 ∷ []) ∷ LeftParen ∷ TypeKeyword Void ∷ RightParen ∷ LeftBrace ∷ Switch ∷ LeftParen ∷ Constant (Decimal 1) ∷ RightParen ∷ LeftBrace ∷ Case ∷ Constant (Decimal 1) ∷ Colon ∷ Case ∷ Constant (Decimal 1) ∷ Colon ∷ Semicolon ∷ Default ∷ Colon ∷ JumpWord Break ∷ Semicolon ∷ Case ∷ Constant (Decimal 1) ∷ Colon ∷ RightBrace ∷ RightBrace ∷ [])
    ∷ (TypeKeyword Int ∷ Name (102 ∷ []) ∷ LeftParen ∷ TypeKeyword Void ∷ RightParen ∷ LeftBrace ∷ Switch ∷ LeftParen ∷ Name (120 ∷ []) ∷ RightParen ∷ LeftBrace ∷ RightBrace ∷ RightBrace ∷ [])
    ∷ (TypeKeyword Int ∷ Name (102 ∷ []) ∷ LeftParen ∷ TypeKeyword Void ∷ RightParen ∷ LeftBrace ∷ For ∷ LeftParen ∷ TypeKeyword Int ∷ Name (120 ∷ []) ∷ Assignment Equals ∷ Constant (Decimal 1) ∷ Comma ∷ Name (121 ∷ []) ∷ Semicolon ∷ Name (120 ∷ []) ∷ Semicolon ∷ Step Increase ∷ Name (120 ∷ []) ∷ RightParen ∷ Do ∷ Semicolon ∷ While ∷ LeftParen ∷ Name (120 ∷ []) ∷ Step Decrease ∷ RightParen ∷ Semicolon ∷ RightBrace ∷ [])
    ∷ (TypeKeyword Int ∷ Name (102 ∷ []) ∷ LeftParen ∷ TypeKeyword Void ∷ RightParen ∷ LeftBrace ∷ For ∷ LeftParen ∷ Semicolon ∷ Semicolon ∷ RightParen ∷ JumpWord Continue ∷ Semicolon ∷ While ∷ LeftParen ∷ Constant (Decimal 1) ∷ RightParen ∷ LeftBrace ∷ Return ∷ Semicolon ∷ RightBrace ∷ RightBrace ∷ [])
    ∷ (TypeKeyword Int ∷ Name (102 ∷ []) ∷ LeftParen ∷ TypeKeyword Void ∷ RightParen ∷ LeftBrace ∷ Name (120 ∷ []) ∷ Assignment Equals ∷ Name (121 ∷ []) ∷ Assignment PlusEquals ∷ Op Minus ∷ Name (120 ∷ []) ∷ Question ∷ Constant (Decimal 1) ∷ Colon ∷ Name (121 ∷ []) ∷ Question ∷ Name (120 ∷ []) ∷ Colon ∷ Constant (Decimal 1) ∷ Semicolon ∷ RightBrace ∷ [])
    ∷ (TypeKeyword Int ∷ Name (102 ∷ []) ∷ LeftParen ∷ TypeKeyword Void ∷ RightParen ∷ LeftBrace ∷ Name (120 ∷ []) ∷ Assignment Equals ∷ Sizeof ∷ LeftParen ∷ TypeKeyword Int ∷ RightParen ∷ Op Star ∷ Constant (Decimal 1) ∷ Op Plus ∷ Sizeof ∷ LeftParen ∷ Name (120 ∷ []) ∷ RightParen ∷ LeftBracket ∷ Constant (Decimal 1) ∷ RightBracket ∷ Op Plus ∷ Sizeof ∷ Name (120 ∷ []) ∷ Semicolon ∷ RightBrace ∷ [])
    ∷ (TypeKeyword Int ∷ LeftParen ∷ Op Star ∷ Name (102 ∷ []) ∷ RightParen ∷ LeftParen ∷ TypeKeyword Int ∷ LeftParen ∷ Op Star ∷ RightParen ∷ LeftParen ∷ TypeKeyword Int ∷ RightParen ∷ Comma ∷ TypeKeyword Void ∷ LeftParen ∷ Op Star ∷ RightParen ∷ LeftBracket ∷ Constant (Decimal 1) ∷ RightBracket ∷ RightParen ∷ Semicolon ∷ [])
    ∷ (TypeKeyword Int ∷ Name (102 ∷ []) ∷ LeftParen ∷ TypeKeyword Int ∷ LeftParen ∷ Name (120 ∷ []) ∷ RightParen ∷ Comma ∷ TypeKeyword Int ∷ LeftParen ∷ TypeKeyword Int ∷ RightParen ∷ Comma ∷ TypeKeyword Int ∷ Op Star ∷ Qualify Const ∷ LeftBracket ∷ Constant (Decimal 1) ∷ RightBracket ∷ Comma ∷ TypeKeyword Int ∷ LeftParen ∷ RightParen ∷ RightParen ∷ Semicolon ∷ [])
    ∷ (TypeKeyword Int ∷ Op Star ∷ Name (102 ∷ []) ∷ LeftParen ∷ TypeKeyword Void ∷ RightParen ∷ LeftBrace ∷ RightBrace ∷ [])
    ∷ (TypeKeyword Long ∷ TypeKeyword Unsigned ∷ TypeKeyword Int ∷ Name (120 ∷ []) ∷ Semicolon ∷ TypeKeyword Unsigned ∷ TypeKeyword Long ∷ TypeKeyword Long ∷ Name (121 ∷ []) ∷ Semicolon ∷ TypeKeyword Int ∷ TypeKeyword Long ∷ TypeKeyword Long ∷ TypeKeyword Signed ∷ Name (116 ∷ []) ∷ Semicolon ∷ TypeKeyword Double ∷ TypeKeyword Long ∷ Name (102 ∷ []) ∷ Semicolon ∷ [])
    ∷ (Qualify Const ∷ Inline ∷ Inline ∷ Qualify Const ∷ Storage Static ∷ TypeKeyword Int ∷ Name (120 ∷ []) ∷ Semicolon ∷ [])
    ∷ (Storage Typedef ∷ TypeKeyword Int ∷ Name (116 ∷ []) ∷ Comma ∷ Name (120 ∷ []) ∷ LeftBracket ∷ Sizeof ∷ LeftParen ∷ Name (116 ∷ []) ∷ RightParen ∷ RightBracket ∷ Semicolon ∷ [])
    ∷ (Storage Typedef ∷ TypeKeyword Int ∷ Name (116 ∷ []) ∷ Semicolon ∷ Composite Struct ∷ Name (116 ∷ []) ∷ LeftBrace ∷ TypeKeyword Int ∷ Name (120 ∷ []) ∷ Semicolon ∷ RightBrace ∷ Name (121 ∷ []) ∷ Semicolon ∷ TypeKeyword Int ∷ Name (102 ∷ []) ∷ LeftParen ∷ TypeKeyword Void ∷ RightParen ∷ LeftBrace ∷ Name (121 ∷ []) ∷ Member Dot ∷ Name (120 ∷ []) ∷ Assignment Equals ∷ Name (120 ∷ []) ∷ Member Arrow ∷ Name (116 ∷ []) ∷ Semicolon ∷ RightBrace ∷ [])
    ∷ (TypeKeyword Int ∷ Name (102 ∷ []) ∷ LeftParen ∷ TypeKeyword Void ∷ Comma ∷ TypeKeyword Int ∷ RightParen ∷ Semicolon ∷ TypeKeyword Int ∷ Name (103 ∷ []) ∷ LeftParen ∷ Qualify Const ∷ TypeKeyword Void ∷ RightParen ∷ Semicolon ∷ [])
    ∷ (TypeKeyword Int ∷ Name (102 ∷ []) ∷ LeftParen ∷ TypeKeyword Void ∷ RightParen ∷ LeftBrace ∷ Op Ampersand ∷ LeftParen ∷ TypeKeyword Int ∷ RightParen ∷ Name (120 ∷ []) ∷ Semicolon ∷ LeftParen ∷ TypeKeyword Int ∷ RightParen ∷ LeftParen ∷ TypeKeyword Int ∷ RightParen ∷ Name (120 ∷ []) ∷ Step Increase ∷ Semicolon ∷ Op Not ∷ Name (120 ∷ []) ∷ Op LogicalAnd ∷ Op Minus ∷ Name (120 ∷ []) ∷ Op Less ∷ Constant (Decimal 1) ∷ Semicolon ∷ RightBrace ∷ [])
    ∷ (TypeKeyword Int ∷ Name (102 ∷ []) ∷ LeftParen ∷ TypeKeyword Void ∷ RightParen ∷ LeftBrace ∷ Name (120 ∷ []) ∷ LeftBracket ∷ Constant (Decimal 1) ∷ RightBracket ∷ LeftParen ∷ Constant (Decimal 1) ∷ Comma ∷ Name (121 ∷ []) ∷ RightParen ∷ LeftParen ∷ Name (120 ∷ []) ∷ RightParen ∷ Member Dot ∷ Name (120 ∷ []) ∷ Step Increase ∷ Semicolon ∷ RightBrace ∷ [])
    ∷ (TypeKeyword Int ∷ Semicolon ∷ [])
    ∷ []
    ) ≡ true
unfolding go feed
files_are_read = refl

abbrev all_stop : List (ℕ × List Kind) → Bool
all_stop [] = true
all_stop (c ∷ rest) = stops_at c.0 c.1 && all_stop rest

-- each of these stops at the token behind `^`:
--   int f(void) { x = 1 ? 1 : 1 ^= 1; }
--   int f(void) { x = sizeof (int) ^[1]; }
--   int (f)(void) ^{ }
--   int f(void), g(void) ^{ }
--   typedef int f(void) ^{ }
--   int x = 1, f(void) ^{ }
--   long ^float x;
--   int const ^int x;
--   short ^long x;
--   signed ^unsigned x;
--   static ^extern int x;
--   int x = { ^};
--   struct s { ^};
--   struct s { int ^; };
--   struct s { ^static int x; };
--   enum s { ^};
--   enum s { x, ^, };
--   typedef int t; int ^t;
--   int f(^t);
--   int f(int x, ^);
--   int f(^inline int x);
--   int f(void) { { typedef int t; } int ^t; }
--   int f(void) { ++(^int)x; }
--   int f(void) { sizeof (int)^x; }
--   int f(void) { ^else ; }
--   int f(void) { ^case 1: ; }
--   int f(void) { switch (1) { ^x; } }
--   int f(void) { (x ^, y); }
--   int f(void) { x + y ^= 1; }
--   int f(void) { for (int ^; ; ) ; }
--   int f(void) { if (1) ; else ; ^else ; }
--   int f(void) { do ; while (1) ^x; }
--   int f(void) { return ^int; }
--   int x[^int];
--   int x[1 ^= 1];
--   ^;
--   ^x;
--   int ^[1];
--   typedef int t; int f(void) { x = ^t; }
--   int f(void) { ^goto x; }
--   int f(int x ^;
--   int *^;
faults_are_found : all_stop (
    (13, TypeKeyword Int ∷ Name (102 ∷ []) ∷ LeftParen ∷ TypeKeyword Void ∷ RightParen ∷ LeftBrace ∷ Name (120 ∷ []) ∷ Assignment Equals ∷ Constant (Decimal 1) ∷ Question ∷ Constant (Decimal 1) ∷ Colon ∷ Constant (Decimal 1) ∷ Assignment Equals ∷ Constant (Decimal 1) ∷ Semicolon ∷ RightBrace ∷ [])
    ∷ (12, TypeKeyword Int ∷ Name (102 ∷ []) ∷ LeftParen ∷ TypeKeyword Void ∷ RightParen ∷ LeftBrace ∷ Name (120 ∷ []) ∷ Assignment Equals ∷ Sizeof ∷ LeftParen ∷ TypeKeyword Int ∷ RightParen ∷ LeftBracket ∷ Constant (Decimal 1) ∷ RightBracket ∷ Semicolon ∷ RightBrace ∷ [])
    ∷ (7, TypeKeyword Int ∷ LeftParen ∷ Name (102 ∷ []) ∷ RightParen ∷ LeftParen ∷ TypeKeyword Void ∷ RightParen ∷ LeftBrace ∷ RightBrace ∷ [])
    ∷ (10, TypeKeyword Int ∷ Name (102 ∷ []) ∷ LeftParen ∷ TypeKeyword Void ∷ RightParen ∷ Comma ∷ Name (103 ∷ []) ∷ LeftParen ∷ TypeKeyword Void ∷ RightParen ∷ LeftBrace ∷ RightBrace ∷ [])
    ∷ (6, Storage Typedef ∷ TypeKeyword Int ∷ Name (102 ∷ []) ∷ LeftParen ∷ TypeKeyword Void ∷ RightParen ∷ LeftBrace ∷ RightBrace ∷ [])
    ∷ (9, TypeKeyword Int ∷ Name (120 ∷ []) ∷ Assignment Equals ∷ Constant (Decimal 1) ∷ Comma ∷ Name (102 ∷ []) ∷ LeftParen ∷ TypeKeyword Void ∷ RightParen ∷ LeftBrace ∷ RightBrace ∷ [])
    ∷ (1, TypeKeyword Long ∷ TypeKeyword Float ∷ Name (120 ∷ []) ∷ Semicolon ∷ [])
    ∷ (2, TypeKeyword Int ∷ Qualify Const ∷ TypeKeyword Int ∷ Name (120 ∷ []) ∷ Semicolon ∷ [])
    ∷ (1, TypeKeyword Short ∷ TypeKeyword Long ∷ Name (120 ∷ []) ∷ Semicolon ∷ [])
    ∷ (1, TypeKeyword Signed ∷ TypeKeyword Unsigned ∷ Name (120 ∷ []) ∷ Semicolon ∷ [])
    ∷ (1, Storage Static ∷ Storage Extern ∷ TypeKeyword Int ∷ Name (120 ∷ []) ∷ Semicolon ∷ [])
    ∷ (4, TypeKeyword Int ∷ Name (120 ∷ []) ∷ Assignment Equals ∷ LeftBrace ∷ RightBrace ∷ Semicolon ∷ [])
    ∷ (3, Composite Struct ∷ Name (115 ∷ []) ∷ LeftBrace ∷ RightBrace ∷ Semicolon ∷ [])
    ∷ (4, Composite Struct ∷ Name (115 ∷ []) ∷ LeftBrace ∷ TypeKeyword Int ∷ Semicolon ∷ RightBrace ∷ Semicolon ∷ [])
    ∷ (3, Composite Struct ∷ Name (115 ∷ []) ∷ LeftBrace ∷ Storage Static ∷ TypeKeyword Int ∷ Name (120 ∷ []) ∷ Semicolon ∷ RightBrace ∷ Semicolon ∷ [])
    ∷ (3, Enum ∷ Name (115 ∷ []) ∷ LeftBrace ∷ RightBrace ∷ Semicolon ∷ [])
    ∷ (5, Enum ∷ Name (115 ∷ []) ∷ LeftBrace ∷ Name (120 ∷ []) ∷ Comma ∷ Comma ∷ RightBrace ∷ Semicolon ∷ [])
    ∷ (5, Storage Typedef ∷ TypeKeyword Int ∷ Name (116 ∷ []) ∷ Semicolon ∷ TypeKeyword Int ∷ Name (116 ∷ []) ∷ Semicolon ∷ [])
    ∷ (3, TypeKeyword Int ∷ Name (102 ∷ []) ∷ LeftParen ∷ Name (116 ∷ []) ∷ RightParen ∷ Semicolon ∷ [])
    ∷ (6, TypeKeyword Int ∷ Name (102 ∷ []) ∷ LeftParen ∷ TypeKeyword Int ∷ Name (120 ∷ []) ∷ Comma ∷ RightParen ∷ Semicolon ∷ [])
    ∷ (3, TypeKeyword Int ∷ Name (102 ∷ []) ∷ LeftParen ∷ Inline ∷ TypeKeyword Int ∷ Name (120 ∷ []) ∷ RightParen ∷ Semicolon ∷ [])
    ∷ (13, TypeKeyword Int ∷ Name (102 ∷ []) ∷ LeftParen ∷ TypeKeyword Void ∷ RightParen ∷ LeftBrace ∷ LeftBrace ∷ Storage Typedef ∷ TypeKeyword Int ∷ Name (116 ∷ []) ∷ Semicolon ∷ RightBrace ∷ TypeKeyword Int ∷ Name (116 ∷ []) ∷ Semicolon ∷ RightBrace ∷ [])
    ∷ (8, TypeKeyword Int ∷ Name (102 ∷ []) ∷ LeftParen ∷ TypeKeyword Void ∷ RightParen ∷ LeftBrace ∷ Step Increase ∷ LeftParen ∷ TypeKeyword Int ∷ RightParen ∷ Name (120 ∷ []) ∷ Semicolon ∷ RightBrace ∷ [])
    ∷ (10, TypeKeyword Int ∷ Name (102 ∷ []) ∷ LeftParen ∷ TypeKeyword Void ∷ RightParen ∷ LeftBrace ∷ Sizeof ∷ LeftParen ∷ TypeKeyword Int ∷ RightParen ∷ Name (120 ∷ []) ∷ Semicolon ∷ RightBrace ∷ [])
    ∷ (6, TypeKeyword Int ∷ Name (102 ∷ []) ∷ LeftParen ∷ TypeKeyword Void ∷ RightParen ∷ LeftBrace ∷ Else ∷ Semicolon ∷ RightBrace ∷ [])
    ∷ (6, TypeKeyword Int ∷ Name (102 ∷ []) ∷ LeftParen ∷ TypeKeyword Void ∷ RightParen ∷ LeftBrace ∷ Case ∷ Constant (Decimal 1) ∷ Colon ∷ Semicolon ∷ RightBrace ∷ [])
    ∷ (11, TypeKeyword Int ∷ Name (102 ∷ []) ∷ LeftParen ∷ TypeKeyword Void ∷ RightParen ∷ LeftBrace ∷ Switch ∷ LeftParen ∷ Constant (Decimal 1) ∷ RightParen ∷ LeftBrace ∷ Name (120 ∷ []) ∷ Semicolon ∷ RightBrace ∷ RightBrace ∷ [])
    ∷ (8, TypeKeyword Int ∷ Name (102 ∷ []) ∷ LeftParen ∷ TypeKeyword Void ∷ RightParen ∷ LeftBrace ∷ LeftParen ∷ Name (120 ∷ []) ∷ Comma ∷ Name (121 ∷ []) ∷ RightParen ∷ Semicolon ∷ RightBrace ∷ [])
    ∷ (9, TypeKeyword Int ∷ Name (102 ∷ []) ∷ LeftParen ∷ TypeKeyword Void ∷ RightParen ∷ LeftBrace ∷ Name (120 ∷ []) ∷ Op Plus ∷ Name (121 ∷ []) ∷ Assignment Equals ∷ Constant (Decimal 1) ∷ Semicolon ∷ RightBrace ∷ [])
    ∷ (9, TypeKeyword Int ∷ Name (102 ∷ []) ∷ LeftParen ∷ TypeKeyword Void ∷ RightParen ∷ LeftBrace ∷ For ∷ LeftParen ∷ TypeKeyword Int ∷ Semicolon ∷ Semicolon ∷ RightParen ∷ Semicolon ∷ RightBrace ∷ [])
    ∷ (13, TypeKeyword Int ∷ Name (102 ∷ []) ∷ LeftParen ∷ TypeKeyword Void ∷ RightParen ∷ LeftBrace ∷ If ∷ LeftParen ∷ Constant (Decimal 1) ∷ RightParen ∷ Semicolon ∷ Else ∷ Semicolon ∷ Else ∷ Semicolon ∷ RightBrace ∷ [])
    ∷ (12, TypeKeyword Int ∷ Name (102 ∷ []) ∷ LeftParen ∷ TypeKeyword Void ∷ RightParen ∷ LeftBrace ∷ Do ∷ Semicolon ∷ While ∷ LeftParen ∷ Constant (Decimal 1) ∷ RightParen ∷ Name (120 ∷ []) ∷ Semicolon ∷ RightBrace ∷ [])
    ∷ (7, TypeKeyword Int ∷ Name (102 ∷ []) ∷ LeftParen ∷ TypeKeyword Void ∷ RightParen ∷ LeftBrace ∷ Return ∷ TypeKeyword Int ∷ Semicolon ∷ RightBrace ∷ [])
    ∷ (3, TypeKeyword Int ∷ Name (120 ∷ []) ∷ LeftBracket ∷ TypeKeyword Int ∷ RightBracket ∷ Semicolon ∷ [])
    ∷ (4, TypeKeyword Int ∷ Name (120 ∷ []) ∷ LeftBracket ∷ Constant (Decimal 1) ∷ Assignment Equals ∷ Constant (Decimal 1) ∷ RightBracket ∷ Semicolon ∷ [])
    ∷ (0, Semicolon ∷ [])
    ∷ (0, Name (120 ∷ []) ∷ Semicolon ∷ [])
    ∷ (1, TypeKeyword Int ∷ LeftBracket ∷ Constant (Decimal 1) ∷ RightBracket ∷ Semicolon ∷ [])
    ∷ (12, Storage Typedef ∷ TypeKeyword Int ∷ Name (116 ∷ []) ∷ Semicolon ∷ TypeKeyword Int ∷ Name (102 ∷ []) ∷ LeftParen ∷ TypeKeyword Void ∷ RightParen ∷ LeftBrace ∷ Name (120 ∷ []) ∷ Assignment Equals ∷ Name (116 ∷ []) ∷ Semicolon ∷ RightBrace ∷ [])
    ∷ (6, TypeKeyword Int ∷ Name (102 ∷ []) ∷ LeftParen ∷ TypeKeyword Void ∷ RightParen ∷ LeftBrace ∷ Refused ∷ Name (120 ∷ []) ∷ Semicolon ∷ RightBrace ∷ [])
    ∷ (5, TypeKeyword Int ∷ Name (102 ∷ []) ∷ LeftParen ∷ TypeKeyword Int ∷ Name (120 ∷ []) ∷ Semicolon ∷ [])
    ∷ (2, TypeKeyword Int ∷ Op Star ∷ Semicolon ∷ [])
    ∷ []
    ) ≡ true
unfolding go feed
faults_are_found = refl
