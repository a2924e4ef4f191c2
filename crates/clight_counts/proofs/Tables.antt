-- The loops that make the tables of the sizes, and what the tables say of a function.
use Rattle.std.proofs.Common.{◌≡◌, ℕ, suc, ◌+◌, ◌<◌, ◌≤◌, List, [], ◌∷◌, ◌++◌, length, map, take, get_or, find, Option, Some, None, refl, sym, ap, ◌∙◌, arith}
use Rattle.std.specs.Prelude.{sum_by}
use Rattle.std.specs.Option.{option_map}
use Rattle.std.specs.Map.{lookup}
use Rattle.std.proofs.lemmas.List.{map-append, take_more, take_all}
use Rattle.std.proofs.lemmas.List.Sums.{sum_by_push}
use Rattle.c_tree.specs.Trees.{ExternalTree, FileTree, decl_external, function_external}
use Rattle.c_tree.specs.FileShape.{external_of, externals_of}
use Rattle.c_tree.specs.declared.file.External.{External}
use Rattle.clight_types.specs.Types.{Types, Spelling, same_name, size_at, shape_at}
use Rattle.clight_calls.specs.Calls.{parameters_at}
use Rattle.clight_nodes.specs.Nodes.{declarator_nodes, items_nodes}
use Rattle.clight_files.specs.Files as f
use Rattle.clight_files.specs.FilesOf.{function_made_of, functions_of}
use Rattle.clight_files.specs.declared.made.FunctionMade as M
use Rattle.clight_meaning.specs.Counts.{DefinitionOf, definitions_of, definition_named, function_named, SizeOf, defined_size, function_size, bytes_of_all}
use Rattle.clight_counts.specs.declared.texts.Text.{Text}
use Rattle.clight_counts.specs.declared.sizes.Sizes as T
use Rattle.clight_counts.specs.First.{with_first, firsts}
use Rattle.clight_counts.specs.CountsOf.{text_of, text_entry, texts_in, bytes_entry, bytes_in, AreSizes, size_with, size_in}
use Rattle.clight_counts.proofs.Firsts.{firsts_append, found_named}

-- ## Texts

definitions_append : (xs ys : FileTree) → definitions_of (xs ++ ys) ≡ definitions_of xs ++ definitions_of ys
definitions_append [] ys = refl
definitions_append (decl_external d ∷ xs) ys = definitions_append xs ys
definitions_append (function_external at ss d body_at is ∷ xs) ys = ap (λ r. definitions_of (function_external at ss d body_at is ∷ []) ++ r) (definitions_append xs ys)

externals_append : (xs ys : List External) → externals_of (xs ++ ys) ≡ externals_of xs ++ externals_of ys
externals_append [] ys = refl
externals_append (x ∷ xs) ys = ap (λ r. external_of x ∷ r) (externals_append xs ys)

texts_append : (xs : FileTree) (x : ExternalTree) → texts_in (definitions_of (xs ++ x ∷ [])) ≡ texts_in (definitions_of xs) ++ texts_in (definitions_of (x ∷ []))
texts_append xs x = ap texts_in (definitions_append xs (x ∷ [])) ∙ map-append text_entry (definitions_of xs) (definitions_of (x ∷ []))

pub texts_next : (now new : List (Spelling × Text)) (list : List External) (i : ℕ) (x : External) → i < length list → x ≡ get_or list i x
    → new ≡ firsts now (texts_in (definitions_of (external_of x ∷ [])))
    → now ≡ firsts [] (texts_in (definitions_of (externals_of (take i list))))
    → new ≡ firsts [] (texts_in (definitions_of (externals_of (take (i + 1) list))))
texts_next now new list i x within is step known =
    step
    ∙ ap (λ es. firsts es (texts_in (definitions_of (external_of x ∷ [])))) known
    ∙ sym (firsts_append [] (texts_in (definitions_of (externals_of (take i list)))) (texts_in (definitions_of (external_of x ∷ []))))
    ∙ sym (ap (firsts []) (texts_append (externals_of (take i list)) (external_of x)))
    ∙ sym (ap (λ xs. firsts [] (texts_in (definitions_of xs))) (externals_append (take i list) (x ∷ [])))
    ∙ sym (ap (λ (xs : List External). firsts [] (texts_in (definitions_of (externals_of xs)))) (take_more list i x within ∙ ap (λ y. take i list ++ y ∷ []) (sym is)))

pub texts_end : (now : List (Spelling × Text)) (list : List External) (i : ℕ) → length list ≤ i → now ≡ firsts [] (texts_in (definitions_of (externals_of (take i list)))) → now ≡ firsts [] (texts_in (definitions_of (externals_of list)))
texts_end now list i past known = known ∙ ap (λ (xs : List External). firsts [] (texts_in (definitions_of (externals_of xs)))) (take_all i list past)

-- ## Bytes

pub bytes_next : (types : Types) (now new : List (Spelling × ℕ)) (list : List M.FunctionMade) (i : ℕ) (x : M.FunctionMade) (name : Spelling) (n : ℕ) (l : List ℕ) → i < length list → x ≡ get_or list i x
    → new ≡ with_first now (name, n) → name ≡ x.name → n ≡ bytes_of_all types l → l ≡ x.locals.items
    → now ≡ firsts [] (bytes_in types (functions_of (take i list)))
    → new ≡ firsts [] (bytes_in types (functions_of (take (i + 1) list)))
bytes_next types now new list i x name n l within is step named count items known =
    step
    ∙ ap (λ k. with_first now (k, n)) named
    ∙ ap (λ k. with_first now (x.name, k)) (count ∙ ap (bytes_of_all types) items)
    ∙ ap (λ es. with_first es (x.name, bytes_of_all types x.locals.items)) known
    ∙ sym (firsts_append [] (bytes_in types (functions_of (take i list))) (bytes_in types (functions_of (x ∷ []))))
    ∙ sym (ap (firsts []) (map-append (bytes_entry types) (functions_of (take i list)) (functions_of (x ∷ []))))
    ∙ sym (ap (λ fs. firsts [] (bytes_in types fs)) (map-append function_made_of (take i list) (x ∷ [])))
    ∙ sym (ap (λ (xs : List M.FunctionMade). firsts [] (bytes_in types (functions_of xs))) (take_more list i x within ∙ ap (λ y. take i list ++ y ∷ []) (sym is)))

pub bytes_end : (types : Types) (now : List (Spelling × ℕ)) (list : List M.FunctionMade) (i : ℕ) → length list ≤ i → now ≡ firsts [] (bytes_in types (functions_of (take i list))) → now ≡ firsts [] (bytes_in types (functions_of list))
bytes_end types now list i past known = known ∙ ap (λ (xs : List M.FunctionMade). firsts [] (bytes_in types (functions_of xs))) (take_all i list past)

pub sum_next : (types : Types) (now new : ℕ) (list : List ℕ) (i : ℕ) (t : ℕ) → i < length list → t ≡ get_or list i t → new ≡ now + size_at types t → now ≡ bytes_of_all types (take i list) → new ≡ bytes_of_all types (take (i + 1) list)
sum_next types now new list i t within is step known =
    step ∙ ap (λ n. n + size_at types t) known
    ∙ sym (sum_by_push (size_at types) (take i list) t)
    ∙ sym (ap (sum_by (size_at types)) (take_more list i t within ∙ ap (λ y. take i list ++ y ∷ []) (sym is)))

-- ## Sizes

between : (a n b : ℕ) → (a + (1 + b)) + n ≡ a + (n + (1 + b))
between a n b = omega arith

pub size_is : (file : FileTree) (made : f.FileMade) (s : T.Sizes) → AreSizes file made s → (name : Spelling) (t : ℕ) → size_in s made.scene.types name t ≡ function_size file made name t
size_is file made s h name t =
    ap (λ es. size_with made.scene.types (parameters_at (shape_at made.scene.types t)) (lookup (same_name name) es) (lookup (same_name name) s.bytes.entries)) h.texts
    ∙ ap (λ o. size_with made.scene.types (parameters_at (shape_at made.scene.types t)) o (lookup (same_name name) s.bytes.entries)) (found_named (λ (d : DefinitionOf). d.name) text_of name (definitions_of file))
    ∙ ap (λ es. size_with made.scene.types (parameters_at (shape_at made.scene.types t)) (option_map text_of (definition_named file name)) (lookup (same_name name) es)) h.bytes
    ∙ ap (size_with made.scene.types (parameters_at (shape_at made.scene.types t)) (option_map text_of (definition_named file name))) (found_named (λ (f : f.FunctionMade). f.name) (λ f. bytes_of_all made.scene.types f.locals) name made.functions)
    ∙ by (definition_named file name) (function_named made.functions name)
  where
    by : (d : Option DefinitionOf) (m : Option f.FunctionMade) → size_with made.scene.types (parameters_at (shape_at made.scene.types t)) (option_map text_of d) (option_map (λ (f : f.FunctionMade). bytes_of_all made.scene.types f.locals) m) ≡ defined_size made.scene.types (parameters_at (shape_at made.scene.types t)) d m
    by None None = refl
    by None (Some m) = refl
    by (Some d) None = refl
    by (Some d) (Some m) = ap (λ n. record { nodes = n; bytes = bytes_of_all made.scene.types m.locals; parameters = length (parameters_at (shape_at made.scene.types t)); labels = (text_of d).labels }) (between (declarator_nodes d.declarator) (length (parameters_at (shape_at made.scene.types t))) (items_nodes d.body))
