-- What awaits outside functions in a list is not changed by what stands behind it and awaits nothing.
-- The call of one function that is made of a module's statements and exports is what the definitions wrap the module in.
-- The object of a namespace has its form: its shape property by property, and its names.
-- A stable sort by names gives what putting each pair at its place gives.
use Rattle.std.proofs.Common.{◌≡◌, ◌∙◌, ℕ, suc, Bool, true, false, not, ◌&&◌, ◌||◌, List, [], ◌∷◌, ◌++◌, Option, Some, None, refl, ap, sym, subst, fold, length, length-append, append_assoc, slice_get, arith, bytes_eq, codes, if◌then◌else◌, zero, map, append-nil, string_bytes, ◌≢◌, ◌+◌, ◌<◌, unwrap_or, cond, get_or, drop}
use Rattle.std.specs.Prelude.{⊤}
use Rattle.std.specs.List.{All, flat_map, filter, slice_index_or}
use Rattle.std.proofs.lemmas.List.Elements.{All-head, All-tail}
use Rattle.std.proofs.Math.Seq.{take-append_seam}
use Rattle.std.proofs.lemmas.Grind.{flat_map-append}
use Rattle.std.specs.Map.{lookup}
use Rattle.std.proofs.lemmas.List.Sums.{fold-append}
use Rattle.std.proofs.lemmas.Slice.Eq.{bytes_eq-Decides}
use Rattle.std.specs.Cmp.{IsStrictWeakOrder}
use Rattle.std.specs.Cmp.Lexicographic.{slice_cmp}
use Rattle.std.specs.List.Sorted.{IsSortedBy, IsStableBy, ties}
use Rattle.std.specs.Ordering.{is_lt, nat_cmp}
use Rattle.std.specs.declared.cmp.Ordering.{Ordering}
use Rattle.std.specs.declared.cmp.Ordering.TheVariants.{Less, Equal, Greater}
use Rattle.std.proofs.lemmas.Bool.{false≢true}
use Rattle.std.proofs.lemmas.Cmp.{nat_list_cmp_total}
use Rattle.std.proofs.lemmas.List.Sorted.{sorted_far, ranks_by}
use Rattle.bundle_syntax.specs.declared.specifier.ExportSpecifier.{ExportSpecifier}
use Rattle.bundle_syntax.specs.declared.specifier.ExportSpecifier.TheVariants.{ExportNamedSpecifier}
use Rattle.bundle_syntax.specs.declared.specifier.ModuleExportName.{ModuleExportName}
use Rattle.bundle_syntax.specs.declared.piece.Role.TheVariants.{Reference, Binding}
use Rattle.bundle_syntax.specs.Item as in_item
use Rattle.bundle_syntax.specs.Item.{Item}
use Rattle.bundle_syntax.specs.declared.kind.VarDeclKind.TheVariants.{Const}
use Rattle.bundle_syntax.specs.declared.ident.Ident as v_ident
use Rattle.bundle_syntax.specs.declared.specifier.ModuleExportName.TheVariants as export_name
use Rattle.bundle_tree_ast.specs.declared.module.ModuleItem.{ModuleItem}
use Rattle.bundle_rules.specs.Places.{past, start, path_to, path_at, Around, Spot, occurrences_from}
use Rattle.bundle_rules.specs.Deferred.{is_in_function}
use Rattle.bundle_rules.specs.Nodes.{Text, begins_in, begins_with, side_by_side}
use Rattle.bundle_rules.specs.Idents.{Ident, ident_of, idents}
use Rattle.bundle_rules.specs.Awaits.{awaits_here, awaits_from, awaits_outside}
use Rattle.bundle_rules.specs.Injected as form
use Rattle.bundle_rules.specs.Injected.{is_ascii_identifier, NamedTarget}
use Rattle.bundle_rules.specs.Forms.{returned_key, returned_property, returned_object, by_names, called_function, exported_pair, exported_pairs, function_body, is_export_list, wrapped, names_in, form_shape, property_ident, IsNamespaceItem, is_less, put_by_name}
use Rattle.bundle_rules.specs.Bundle.{function_front, function_back}
use Rattle.bundle_rules.specs.Marks.{Begins, Ends as Ends_objects, Empty, Name, Word}
use Rattle.bundle_rules.specs.Shape.{Outline, shape_at, shape_from, shape}
use Rattle.bundle_rules.specs.Linking.{Declared, Namespace}
use Rattle.bundle_rules.specs.Statements.{no_notes}
use Rattle.bundle_rules.specs.Meaning.{Of, Known, Meant, Mark}
use Rattle.bundle_tree_ast.specs.declared.module.ModuleItem.TheVariants as item
use Rattle.bundle_tree_ast.specs.declared.stmt.Stmt as v_stmt
use Rattle.bundle_tree_ast.specs.declared.decl.Decl as v_decl
use Rattle.bundle_tree_listed.specs.Tree.{export_specifier_items, module_item_items, node, stmt_items}
use Rattle.bundle_tree_list.proofs.Modules.{item_single}
use Rattle.bundle_merge_injected.specs.Listed.{called, namespace_object}
use Rattle.bundle_merge_forms.specs.Wrapped.{IsOfIdent, EndsInExports, nothing, exports, statement_items, exported_under, given_by, exported_in, CanBeWrapped}
use Rattle.bundle_merge_forms.specs.Named.{AreExportsApart, injected}

-- ---- quiet

-- nothing here awaits
abbrev Quiet : List Item → Type 0
Quiet [] = ⊤
Quiet (x ∷ xs) = (awaits_here x ≡ false) × Quiet xs

quiet-append : (xs ys : List Item) → Quiet xs → Quiet ys → Quiet (xs ++ ys)
quiet-append [] ys qx qy = qy
quiet-append (x ∷ xs) ys qx qy = (qx.0, quiet-append xs ys qx.1 qy)

quiet_from : (tree : List Item) (place : ℕ) (xs : List Item) → Quiet xs → awaits_from tree place xs ≡ false
quiet_from tree place [] q = refl
quiet_from tree place (x ∷ xs) q = ap (λ b. (b && not (is_in_function (path_at tree place))) || awaits_from tree (suc place) xs) q.0 ∙ quiet_from tree (suc place) xs q.1

pub slice_get-seam : (before : List Item) (x : Item) (rest : List Item) → slice_get (before ++ x ∷ rest) (length before) ≡ Some x
slice_get-seam [] x rest = refl
slice_get-seam (y ∷ before) x rest = slice_get-seam before x rest

pub path-seam : (before : List Item) (x : Item) (rest : List Item) → path_at (before ++ x ∷ rest) (length before) ≡ path_to (fold past start before).path x
path-seam before x rest = rw (take-append_seam before (x ∷ rest), slice_get-seam before x rest)

front : (before rest ys : List Item) → Quiet ys → awaits_from (before ++ (rest ++ ys)) (length before) (rest ++ ys) ≡ awaits_from (before ++ rest) (length before) rest
front before [] ys q = quiet_from (before ++ ys) (length before) ys q
front before (x ∷ rest) ys q =
    let tree : List Item = before ++ x ∷ (rest ++ ys) in
    let own : List Item = before ++ x ∷ rest in
    let here : path_at tree (length before) ≡ path_at own (length before) = path-seam before x (rest ++ ys) ∙ sym (path-seam before x rest) in
    let count : length (before ++ x ∷ []) ≡ suc (length before) = length-append before (x ∷ []) ∙ omega arith in
    let later : awaits_from tree (suc (length before)) (rest ++ ys) ≡ awaits_from own (suc (length before)) rest =
    ap (λ t. awaits_from t (suc (length before)) (rest ++ ys)) (sym (append_assoc before (x ∷ []) (rest ++ ys)))
    ∙ ap (λ n. awaits_from ((before ++ x ∷ []) ++ (rest ++ ys)) n (rest ++ ys)) (sym count)
    ∙ front (before ++ x ∷ []) rest ys q
    ∙ ap (λ n. awaits_from ((before ++ x ∷ []) ++ rest) n rest) count
    ∙ ap (λ t. awaits_from t (suc (length before)) rest) (append_assoc before (x ∷ []) rest) in
    ap (λ path. (awaits_here x && not (is_in_function path)) || awaits_from tree (suc (length before)) (rest ++ ys)) here
    ∙ ap (λ more. (awaits_here x && not (is_in_function (path_at own (length before)))) || more) later

pub quiet_behind : (xs ys : List Item) → Quiet ys → awaits_outside (xs ++ ys) ≡ awaits_outside xs
quiet_behind xs ys q = front [] xs ys q

-- The object that is returned.

abbrev pub key_items : Bool → Bool → Text → List Item
key_items is_proto is_word x =
    if is_proto
    then in_item.Open 0 in_item.ComputedPropName ∷ in_item.Open 0 (in_item.Str x None) ∷ in_item.Close ∷ in_item.Close ∷ []
    else (if is_word then in_item.Open 0 (in_item.IdentName x) ∷ in_item.Close ∷ [] else in_item.Open 0 (in_item.Str x None) ∷ in_item.Close ∷ [])

quiet_key : (is_proto is_word : Bool) (x : Text) → Quiet (key_items is_proto is_word x)
quiet_key true is_word x = (refl, (refl, (refl, (refl, tt))))
quiet_key false true x = (refl, (refl, tt))
quiet_key false false x = (refl, (refl, tt))

quiet_properties : (pairs : List (Text × Ident)) → Quiet (flat_map returned_property pairs)
quiet_properties [] = tt
quiet_properties (pair ∷ pairs) =
    quiet-append (returned_property pair) (flat_map returned_property pairs)
    (refl, quiet-append (returned_key pair.0) (in_item.Ident 1 pair.1.0 pair.1.1 Reference ∷ in_item.Close ∷ []) (quiet_key (bytes_eq pair.0 (codes "__proto__")) (is_ascii_identifier pair.0) pair.0) (refl, (refl, tt)))
    (quiet_properties pairs)

pub quiet_returned : (pairs : List (Text × Ident)) → Quiet (returned_object pairs)
quiet_returned pairs = (refl, (refl, quiet-append (flat_map returned_property pairs) (in_item.Close ∷ in_item.Close ∷ []) (quiet_properties pairs) (refl, (refl, tt))))

-- A list of exports.

quiet_named : (l : v_ident.Ident) (name : Option ModuleExportName) → Quiet (export_specifier_items Reference 0 (ExportNamedSpecifier (export_name.Ident l) name))
quiet_named l None = (refl, (refl, (refl, tt)))
quiet_named l (Some (export_name.Ident name)) = (refl, (refl, (refl, (refl, tt))))
quiet_named l (Some (export_name.Str name)) = (refl, (refl, (refl, (refl, (refl, tt)))))

quiet_specifiers : (specifiers : List ExportSpecifier) → All IsOfIdent specifiers → Quiet (flat_map (export_specifier_items Reference 0) specifiers)
quiet_specifiers [] all = tt
quiet_specifiers (x ∷ more) all =
    let first : IsOfIdent x = All-head IsOfIdent x more all in
    quiet-append (export_specifier_items Reference 0 x) (flat_map (export_specifier_items Reference 0) more)
    (subst (λ s. Quiet (export_specifier_items Reference 0 s)) (sym first.is) (quiet_named first.ident first.name))
    (quiet_specifiers more (All-tail IsOfIdent x more all))

pub quiet_last : (last : List ModuleItem) → EndsInExports last → Quiet (flat_map (module_item_items 0) last)
quiet_last [] nothing = tt
quiet_last _ (exports specifiers meta all) =
    let list : List Item = flat_map (export_specifier_items Reference 0) specifiers.items in
    quiet-append (in_item.Open 0 (in_item.NamedExport meta) ∷ ((list ++ []) ++ in_item.Close ∷ [])) []
    (refl, quiet-append (list ++ []) (in_item.Close ∷ []) (quiet-append list [] (quiet_specifiers specifiers.items all) tt) (refl, tt)) tt

-- ---- body

-- The parts of a module are its items.

items_are : (items : List ModuleItem) → side_by_side zero (flat_map (module_item_items 0) items ++ in_item.Close ∷ []) ≡ map (module_item_items 0) items
items_are [] = refl
items_are (x ∷ items) =
    let xs = module_item_items 0 x in
    let rest = flat_map (module_item_items 0) items in
    ap (λ (l : List Item). side_by_side zero l) (append_assoc xs rest (in_item.Close ∷ []))
    ∙ ((item_single 0 x).beside (rest ++ in_item.Close ∷ []) ∙ ap (λ (l : List (List Item)). xs ∷ l) (items_are items))

-- no statement is a list of exports
no_list : (s : v_stmt.Stmt) → begins_with is_export_list (stmt_items 0 s) ≡ false
unfolding stmt_items
no_list (v_stmt.BlockStmt' _ stmts) = refl
no_list v_stmt.EmptyStmt = refl
no_list v_stmt.DebuggerStmt = refl
no_list (v_stmt.WithStmt' obj _ body) = refl
no_list (v_stmt.ReturnStmt' arg) = refl
no_list (v_stmt.LabeledStmt' label _ body) = refl
no_list (v_stmt.BreakStmt label) = refl
no_list (v_stmt.ContinueStmt label) = refl
no_list (v_stmt.IfStmt' test _ cons alt) = refl
no_list (v_stmt.SwitchStmt' discriminant _ cases) = refl
no_list (v_stmt.ThrowStmt arg) = refl
no_list (v_stmt.TryStmt' _ stmts handler finalizer) = refl
no_list (v_stmt.WhileStmt' test _ body) = refl
no_list (v_stmt.DoWhileStmt' _ body test) = refl
no_list (v_stmt.ForStmt' init test update _ body) = refl
no_list (v_stmt.ForInStmt' left right _ body) = refl
no_list (v_stmt.ForOfStmt' is_await left right _ body) = refl
no_list (v_stmt.Decl (v_decl.ClassDecl' ident super_class _ body)) = refl
no_list (v_stmt.Decl (v_decl.FnDecl' ident _ params _ stmts is_generator is_async)) = refl
no_list (v_stmt.Decl (v_decl.VarDecl' kind _ decls meta)) = refl
no_list (v_stmt.ExprStmt expr) = refl

-- What a list of exports gives.

one_given : (l : v_ident.Ident) (name : Option ModuleExportName) (rest : List Item) → map exported_pair (filter (begins_in 0) (side_by_side zero (export_specifier_items Reference 0 (ExportNamedSpecifier (export_name.Ident l) name) ++ rest))) ≡ (exported_under name l, (string_bytes l.sym, l.ctxt)) ∷ map exported_pair (filter (begins_in 0) (side_by_side zero rest))
one_given l None rest = refl
one_given l (Some (export_name.Ident name)) rest = refl
one_given l (Some (export_name.Str name)) rest = refl

all_given : (specifiers : List ExportSpecifier) → All IsOfIdent specifiers → map exported_pair (filter (begins_in 0) (side_by_side zero (flat_map (export_specifier_items Reference 0) specifiers ++ in_item.Close ∷ []))) ≡ flat_map given_by specifiers
all_given [] all = refl
all_given (x ∷ more) all =
    let first : IsOfIdent x = All-head IsOfIdent x more all in
    let rest : List Item = flat_map (export_specifier_items Reference 0) more ++ in_item.Close ∷ [] in
    ap (λ items. map exported_pair (filter (begins_in 0) (side_by_side zero items))) (append_assoc (export_specifier_items Reference 0 x) (flat_map (export_specifier_items Reference 0) more) (in_item.Close ∷ []))
    ∙ ap (λ s. map exported_pair (filter (begins_in 0) (side_by_side zero (export_specifier_items Reference 0 s ++ rest)))) first.is
    ∙ one_given first.ident first.name rest
    ∙ ap (λ pairs. (exported_under first.name first.ident, (string_bytes first.ident.sym, first.ident.ctxt)) ∷ pairs) (all_given more (All-tail IsOfIdent x more all))
    ∙ ap (λ s. given_by s ++ flat_map given_by more) (sym first.is)

list_gives : (specifiers : List ExportSpecifier) → All IsOfIdent specifiers → map exported_pair (filter (begins_in 0) (side_by_side zero ((flat_map (export_specifier_items Reference 0) specifiers ++ []) ++ in_item.Close ∷ []))) ≡ flat_map given_by specifiers ++ []
list_gives specifiers all =
    ap (λ items. map exported_pair (filter (begins_in 0) (side_by_side zero (items ++ in_item.Close ∷ [])))) (append-nil (flat_map (export_specifier_items Reference 0) specifiers))
    ∙ all_given specifiers all ∙ sym (append-nil (flat_map given_by specifiers))

-- The body.

abbrev both : List v_stmt.Stmt → List ModuleItem → List ModuleItem
both stmts last = map item.Stmt stmts ++ last

body_is : (stmts : List v_stmt.Stmt) (last : List ModuleItem) → EndsInExports last → function_body (map (module_item_items 0) (both stmts last)) ≡ flat_map statement_items (both stmts last) ++ returned_object (by_names (flat_map exported_in (both stmts last)))
body_is [] [] nothing = refl
body_is [] _ (exports specifiers meta all) = ap (λ pairs. returned_object (by_names pairs)) (list_gives specifiers.items all)
body_is (s ∷ stmts) last ends =
    let behind : List (List Item) = map (module_item_items 0) (both stmts last) in
    ap (λ c. if c then returned_object (exported_pairs (stmt_items 0 s)) else stmt_items 0 s ++ function_body behind) (no_list s)
    ∙ ap (λ body. stmt_items 0 s ++ body) (body_is stmts last ends)
    ∙ sym (append_assoc (stmt_items 0 s) (flat_map statement_items (both stmts last)) (returned_object (by_names (flat_map exported_in (both stmts last)))))

body_of : (items : List ModuleItem) → CanBeWrapped items → flat_map statement_items items ++ returned_object (by_names (flat_map exported_in items)) ≡ function_body (map (module_item_items 0) items)
body_of items can = subst (λ xs. flat_map statement_items xs ++ returned_object (by_names (flat_map exported_in xs)) ≡ function_body (map (module_item_items 0) xs)) (sym can.is) (sym (body_is can.stmts can.last can.ends))

-- Whether something awaits.

all_stated : (stmts : List v_stmt.Stmt) → flat_map (module_item_items 0) (map item.Stmt stmts) ≡ flat_map statement_items (map item.Stmt stmts)
all_stated [] = refl
all_stated (s ∷ stmts) = ap (λ more. stmt_items 0 s ++ more) (all_stated stmts)

none_stated : (last : List ModuleItem) → EndsInExports last → flat_map statement_items last ≡ []
none_stated [] nothing = refl
none_stated _ (exports specifiers meta all) = refl

awaits_alike : (stmts : List v_stmt.Stmt) (last : List ModuleItem) → EndsInExports last → awaits_outside (flat_map (module_item_items 0) (both stmts last)) ≡ awaits_outside (flat_map statement_items (both stmts last))
awaits_alike stmts last ends =
    ap awaits_outside (flat_map-append (module_item_items 0) (map item.Stmt stmts) last)
    ∙ quiet_behind (flat_map (module_item_items 0) (map item.Stmt stmts)) (flat_map (module_item_items 0) last) (quiet_last last ends)
    ∙ ap awaits_outside (all_stated stmts ∙ sym (append-nil (flat_map statement_items (map item.Stmt stmts))) ∙ ap (λ more. flat_map statement_items (map item.Stmt stmts) ++ more) (sym (none_stated last ends)) ∙ sym (flat_map-append statement_items (map item.Stmt stmts) last))

awaits_of : (items : List ModuleItem) → CanBeWrapped items → awaits_outside (flat_map (module_item_items 0) items) ≡ awaits_outside (function_body (map (module_item_items 0) items))
awaits_of items can =
    let pairs = by_names (flat_map exported_in items) in
    subst (λ xs. awaits_outside (flat_map (module_item_items 0) xs) ≡ awaits_outside (flat_map statement_items xs)) (sym can.is) (awaits_alike can.stmts can.last can.ends)
    ∙ sym (quiet_behind (flat_map statement_items items) (returned_object pairs) (quiet_returned pairs))
    ∙ ap awaits_outside (body_of items can)

-- The whole.

front_and_back : (is_async : Bool) (body : List Item) → node 0 in_item.Module (node 0 in_item.ExprStmt (called is_async body)) ≡ function_front is_async ++ (body ++ function_back)
front_and_back is_async body = simp append_assoc

wrapped_is : (items : List ModuleItem) (made stmts : List Item) (is_async : Bool) (pairs : List (Text × Ident)) → made ≡ node 0 in_item.Module (node 0 in_item.ExprStmt (called is_async (stmts ++ returned_object pairs))) → is_async ≡ awaits_outside (flat_map (module_item_items 0) items) → stmts ≡ flat_map statement_items items → pairs ≡ by_names (flat_map exported_in items) → CanBeWrapped items → made ≡ wrapped (node 0 in_item.Module (flat_map (module_item_items 0) items))
wrapped_is items made stmts is_async pairs is awaits stated_is given can =
    let body : List Item = function_body (map (module_item_items 0) items) in
    is ∙ front_and_back is_async (stmts ++ returned_object pairs)
    ∙ ap (λ b. function_front is_async ++ (b ++ function_back)) (ap (λ s. s ++ returned_object pairs) stated_is ∙ ap (λ p. flat_map statement_items items ++ returned_object p) given ∙ body_of items can)
    ∙ ap (λ c. function_front c ++ (body ++ function_back)) (awaits ∙ awaits_of items can)
    ∙ ap (λ nodes. called_function (function_body nodes)) (sym (items_are items))

-- the call of one function that these items make
abbrev whole : List ModuleItem → List Item
whole xs = node 0 in_item.ExprStmt (called (awaits_outside (flat_map (module_item_items 0) xs)) (flat_map statement_items xs ++ returned_object (by_names (flat_map exported_in xs))))

pub wrapped_whole : (items xs : List ModuleItem) (made call : List Item) → made ≡ node 0 in_item.Module call → call ≡ whole xs → xs ≡ items → CanBeWrapped items → made ≡ wrapped (node 0 in_item.Module (flat_map (module_item_items 0) items))
wrapped_whole items xs made call made_is call_is same can =
    wrapped_is items made (flat_map statement_items items) (awaits_outside (flat_map (module_item_items 0) items)) (by_names (flat_map exported_in items))
    (made_is ∙ ap (node 0 in_item.Module) (call_is ∙ ap whole same)) refl refl refl can

pub called_is : (made : List Item) (is_async awaits : Bool) (stmts own : List Item) (pairs given : List (Text × Ident)) → made ≡ node 0 in_item.ExprStmt (called is_async (stmts ++ returned_object pairs)) → is_async ≡ awaits → stmts ≡ own → pairs ≡ given → made ≡ node 0 in_item.ExprStmt (called awaits (own ++ returned_object given))
called_is made is_async awaits stmts own pairs given is same_async same_stmts same_pairs =
    is ∙ ap (λ b. node 0 in_item.ExprStmt (called b (stmts ++ returned_object pairs))) same_async
    ∙ ap (λ l. node 0 in_item.ExprStmt (called awaits (l ++ returned_object pairs))) same_stmts
    ∙ ap (λ l. node 0 in_item.ExprStmt (called awaits (own ++ returned_object l))) same_pairs

-- ---- objects

-- The shape of a list, from a spot on.

abbrev shape_along : List Item → Spot → List Item → List Outline
shape_along tree spot [] = []
shape_along tree spot (x ∷ rest) = shape_at tree spot.place (path_to spot.path x) x ++ shape_along tree (past spot x) rest

place_behind : (spot : Spot) (items : List Item) → (fold past spot items).place ≡ spot.place + length items
place_behind spot [] = omega arith
place_behind spot (x ∷ rest) = let later = place_behind (past spot x) rest in omega (arith, later)

along : (before rest : List Item) → shape_from (before ++ rest) (length before) rest ≡ shape_along (before ++ rest) (fold past start before) rest
along before [] = refl
along before (x ∷ rest) =
    let tree : List Item = before ++ x ∷ rest in
    let joined : (before ++ x ∷ []) ++ rest ≡ tree = append_assoc before (x ∷ []) rest in
    let count : length (before ++ x ∷ []) ≡ suc (length before) = length-append before (x ∷ []) ∙ omega arith in
    let here : (fold past start before).place ≡ length before = place_behind start before ∙ omega arith in
    ap (λ path. shape_at tree (length before) path x ++ shape_from tree (suc (length before)) rest) (path-seam before x rest)
    ∙ ap (λ n. shape_at tree n (path_to (fold past start before).path x) x ++ shape_from tree (suc (length before)) rest) (sym here)
    ∙ ap (λ more. shape_at tree (fold past start before).place (path_to (fold past start before).path x) x ++ more)
    (ap (λ t. shape_from t (suc (length before)) rest) (sym joined)
    ∙ ap (λ n. shape_from ((before ++ x ∷ []) ++ rest) n rest) (sym count)
    ∙ along (before ++ x ∷ []) rest
    ∙ ap (λ t. shape_along t (fold past start (before ++ x ∷ [])) rest) joined
    ∙ ap (λ spot. shape_along tree spot rest) (fold-append past start before (x ∷ [])))

shape-along : (tree : List Item) → shape tree ≡ shape_along tree start tree
shape-along tree = along [] tree

-- A key, by what its text is.

abbrev key_marks : Bool → Bool → Text → List Mark
key_marks is_proto is_word x =
    if is_proto
    then Begins 0 in_item.ComputedPropName ∷ Begins 0 (in_item.Str x None) ∷ Ends_objects ∷ Ends_objects ∷ []
    else (if is_word then Begins 0 (in_item.IdentName x) ∷ Ends_objects ∷ [] else Begins 0 (in_item.Str x None) ∷ Ends_objects ∷ [])

-- the spot in an object
abbrev in_object : ℕ → List Around → ℕ → Spot
in_object begins outer place = record { place = place; path = record { head = in_item.ObjectLit; begins = begins; field = 0 } ∷ outer }

-- a property
shape-property : (tree : List Item) (begins : ℕ) (outer : List Around) (is_proto is_word : Bool) (x : Text) (l : Ident) (meant : Meant) (rest : List Item) (out : List Outline) → ((place : ℕ) → shape_along tree (in_object begins outer place) rest ≡ out) → (place : ℕ) → shape_along tree (in_object begins outer place) (in_item.Open 0 in_item.KeyValueProp ∷ (key_items is_proto is_word x ++ in_item.Ident 1 l.0 l.1 Reference ∷ in_item.Close ∷ rest)) ≡ form_shape (Begins 0 in_item.KeyValueProp ∷ (key_marks is_proto is_word x ++ Name 1 meant ∷ Ends_objects ∷ [])) ++ out
shape-property tree begins outer true is_word x l meant rest out later place = ap (λ more. Begins 0 in_item.KeyValueProp ∷ Begins 0 in_item.ComputedPropName ∷ Begins 0 (in_item.Str x None) ∷ Ends_objects ∷ Ends_objects ∷ Name 1 tt ∷ Ends_objects ∷ more) (later _)
shape-property tree begins outer false true x l meant rest out later place = ap (λ more. Begins 0 in_item.KeyValueProp ∷ Begins 0 (in_item.IdentName x) ∷ Ends_objects ∷ Name 1 tt ∷ Ends_objects ∷ more) (later _)
shape-property tree begins outer false false x l meant rest out later place = ap (λ more. Begins 0 in_item.KeyValueProp ∷ Begins 0 (in_item.Str x None) ∷ Ends_objects ∷ Name 1 tt ∷ Ends_objects ∷ more) (later _)

form_shape-append : (xs ys : List Mark) → form_shape (xs ++ ys) ≡ form_shape xs ++ form_shape ys
form_shape-append [] ys = refl
form_shape-append (Name field meant ∷ xs) ys = ap (λ more. Name field tt ∷ more) (form_shape-append xs ys)
form_shape-append (Begins field head ∷ xs) ys = ap (λ more. Begins field head ∷ more) (form_shape-append xs ys)
form_shape-append (Ends_objects ∷ xs) ys = ap (λ more. Ends_objects ∷ more) (form_shape-append xs ys)
form_shape-append (Empty field ∷ xs) ys = ap (λ more. Empty field ∷ more) (form_shape-append xs ys)
form_shape-append (Word field x ∷ xs) ys = ap (λ more. Word field x ∷ more) (form_shape-append xs ys)

-- the names of an object, and the targets that the form has for them
abbrev Pairs : Type 0
Pairs = List (Text × Ident)

abbrev target_of : Text × Ident → NamedTarget
target_of pair = (pair.0, Declared 0 pair.0)

-- a property of the form, in one row
abbrev in_row : Text × Ident → List Mark
in_row pair = Begins 0 in_item.KeyValueProp ∷ (key_marks (bytes_eq pair.0 (codes "__proto__")) (is_ascii_identifier pair.0) pair.0 ++ Name 1 (Known (Of (Declared 0 pair.0))) ∷ Ends_objects ∷ [])

property-in_row : (pair : Text × Ident) → form.property (target_of pair) ≡ in_row pair
property-in_row pair = ap (λ marks. Begins 0 in_item.KeyValueProp ∷ marks) (append_assoc (key_marks (bytes_eq pair.0 (codes "__proto__")) (is_ascii_identifier pair.0) pair.0) (Name 1 (Known (Of (Declared 0 pair.0))) ∷ []) (Ends_objects ∷ []))

shape-properties : (tree : List Item) (begins : ℕ) (outer : List Around) (pairs : Pairs) (tail : List Item) (out : List Outline) → ((place : ℕ) → shape_along tree (in_object begins outer place) tail ≡ out) → (place : ℕ) → shape_along tree (in_object begins outer place) (flat_map returned_property pairs ++ tail) ≡ form_shape (flat_map form.property (map target_of pairs)) ++ out
shape-properties tree begins outer [] tail out last place = last place
shape-properties tree begins outer (pair ∷ pairs) tail out last place =
    let x : Text = pair.0 in
    let rest : List Item = flat_map returned_property pairs ++ tail in
    let later : List Outline = form_shape (flat_map form.property (map target_of pairs)) ++ out in
    let opened : (returned_property pair ++ flat_map returned_property pairs) ++ tail ≡ (in_item.Open 0 in_item.KeyValueProp ∷ (returned_key x ++ in_item.Ident 1 pair.1.0 pair.1.1 Reference ∷ in_item.Close ∷ rest)) =
    append_assoc (returned_property pair) (flat_map returned_property pairs) tail ∙ ap (λ items. in_item.Open 0 in_item.KeyValueProp ∷ items) (append_assoc (returned_key x) (in_item.Ident 1 pair.1.0 pair.1.1 Reference ∷ in_item.Close ∷ []) rest) in
    ap (shape_along tree (in_object begins outer place)) opened
    ∙ shape-property tree begins outer (bytes_eq x (codes "__proto__")) (is_ascii_identifier x) x pair.1 (Known (Of (Declared 0 x))) rest later (shape-properties tree begins outer pairs tail out last) place
    ∙ ap (λ marks. form_shape marks ++ later) (sym (property-in_row pair))
    ∙ sym (append_assoc (form_shape (form.property (target_of pair))) (form_shape (flat_map form.property (map target_of pairs))) out)
    ∙ ap (λ marks. marks ++ out) (sym (form_shape-append (form.property (target_of pair)) (flat_map form.property (map target_of pairs))))

-- The names.

names-append : (xs ys : List Mark) → names_in (xs ++ ys) ≡ names_in xs ++ names_in ys
names-append [] ys = refl
names-append (Name field meant ∷ xs) ys = ap (λ more. meant ∷ more) (names-append xs ys)
names-append (Begins field head ∷ xs) ys = names-append xs ys
names-append (Ends_objects ∷ xs) ys = names-append xs ys
names-append (Empty field ∷ xs) ys = names-append xs ys
names-append (Word field x ∷ xs) ys = names-append xs ys

names-property : (is_proto is_word : Bool) (x : Text) (meant : Meant) (rest : List Mark) → names_in (Begins 0 in_item.KeyValueProp ∷ (key_marks is_proto is_word x ++ Name 1 meant ∷ Ends_objects ∷ rest)) ≡ meant ∷ names_in rest
names-property true is_word x meant rest = refl
names-property false true x meant rest = refl
names-property false false x meant rest = refl

names-properties : (pairs : Pairs) → names_in (flat_map form.property (map target_of pairs)) ≡ map (λ pair. Known (Of (Declared 0 pair.0))) pairs
names-properties [] = refl
names-properties (pair ∷ pairs) =
    names-append (form.property (target_of pair)) (flat_map form.property (map target_of pairs))
    ∙ ap (λ marks. names_in marks ++ names_in (flat_map form.property (map target_of pairs))) (property-in_row pair)
    ∙ ap (λ names. names ++ names_in (flat_map form.property (map target_of pairs))) (names-property (bytes_eq pair.0 (codes "__proto__")) (is_ascii_identifier pair.0) pair.0 (Known (Of (Declared 0 pair.0))) [])
    ∙ ap (λ names. Known (Of (Declared 0 pair.0)) ∷ names) (names-properties pairs)

idents-property : (is_proto is_word : Bool) (x : Text) (l : Ident) (rest : List Item) (out : List Ident) → ((spot : Spot) → map ident_of (occurrences_from spot rest) ≡ out) → (spot : Spot) → map ident_of (occurrences_from spot (in_item.Open 0 in_item.KeyValueProp ∷ (key_items is_proto is_word x ++ in_item.Ident 1 l.0 l.1 Reference ∷ in_item.Close ∷ rest))) ≡ l ∷ out
idents-property true is_word x l rest out later spot = ap (λ more. l ∷ more) (later _)
idents-property false true x l rest out later spot = ap (λ more. l ∷ more) (later _)
idents-property false false x l rest out later spot = ap (λ more. l ∷ more) (later _)

idents-properties : (pairs : Pairs) (tail : List Item) → ((spot : Spot) → map ident_of (occurrences_from spot tail) ≡ []) → (spot : Spot) → map ident_of (occurrences_from spot (flat_map returned_property pairs ++ tail)) ≡ map (λ pair. pair.1) pairs
idents-properties [] tail last spot = last spot
idents-properties (pair ∷ pairs) tail last spot =
    let x : Text = pair.0 in
    let rest : List Item = flat_map returned_property pairs ++ tail in
    let opened : (returned_property pair ++ flat_map returned_property pairs) ++ tail ≡ (in_item.Open 0 in_item.KeyValueProp ∷ (returned_key x ++ in_item.Ident 1 pair.1.0 pair.1.1 Reference ∷ in_item.Close ∷ rest)) =
    append_assoc (returned_property pair) (flat_map returned_property pairs) tail ∙ ap (λ items. in_item.Open 0 in_item.KeyValueProp ∷ items) (append_assoc (returned_key x) (in_item.Ident 1 pair.1.0 pair.1.1 Reference ∷ in_item.Close ∷ []) rest) in
    ap (λ items. map ident_of (occurrences_from spot items)) opened
    ∙ idents-property (bytes_eq x (codes "__proto__")) (is_ascii_identifier x) x pair.1 rest (map (λ pair. pair.1) pairs) (idents-properties pairs tail last) spot

-- Each key has its own identifier, where no two are the same.

is_false : (b : Bool) → (b ≡ true → ⊥) → b ≡ false
is_false true h = absurd (h refl)
is_false false h = refl

skips-first : (object : Ident) (first : Text × Ident) (rest pairs : Pairs) → ((k : ℕ) (d : Text × Ident) → k < length pairs → first.0 ≢ (slice_index_or pairs k d).0) → map (λ pair. unwrap_or (lookup (bytes_eq pair.0) (first ∷ rest)) object) pairs ≡ map (λ pair. unwrap_or (lookup (bytes_eq pair.0) rest) object) pairs
skips-first object first rest [] apart = refl
skips-first object first rest (pair ∷ pairs) apart =
    let other : bytes_eq pair.0 first.0 ≡ false = is_false (bytes_eq pair.0 first.0) (λ e. apart 0 pair (omega arith) (sym ((bytes_eq-Decides pair.0 first.0).0 e))) in
    ap (λ b. unwrap_or (cond b (Some first.1) (lookup (bytes_eq pair.0) rest)) object ∷ map (λ pair. unwrap_or (lookup (bytes_eq pair.0) (first ∷ rest)) object) pairs) other
    ∙ ap (λ more. unwrap_or (lookup (bytes_eq pair.0) rest) object ∷ more) (skips-first object first rest pairs (λ k d lt. apart (suc k) d (omega (arith, lt))))

own-idents : (object : Ident) (pairs : Pairs) → AreExportsApart pairs → map (λ pair. unwrap_or (lookup (bytes_eq pair.0) pairs) object) pairs ≡ map (λ pair. pair.1) pairs
own-idents object [] apart = refl
own-idents object (first ∷ rest) apart =
    ap (λ b. unwrap_or (cond b (Some first.1) (lookup (bytes_eq first.0) rest)) object ∷ map (λ pair. unwrap_or (lookup (bytes_eq pair.0) (first ∷ rest)) object) rest) ((bytes_eq-Decides first.0 first.0).1 refl)
    ∙ ap (λ more. first.1 ∷ more) (skips-first object first rest rest (λ k d lt. apart 0 (suc k) d (omega arith) (omega (arith, lt))) ∙ own-idents object rest (λ i j d lt within. apart (suc i) (suc j) d (omega (arith, lt)) (omega (arith, within))))

meant-idents : (object : Ident) (all pairs : Pairs) → map (property_ident object all) (map (λ pair. Known (Of (Declared 0 pair.0))) pairs) ≡ map (λ pair. unwrap_or (lookup (bytes_eq pair.0) all) object) pairs
meant-idents object all [] = refl
meant-idents object all (pair ∷ pairs) = ap (λ more. unwrap_or (lookup (bytes_eq pair.0) all) object ∷ more) (meant-idents object all pairs)

-- The whole.

-- what stands behind the properties
abbrev closes : List Item
closes = in_item.Close ∷ in_item.Close ∷ in_item.Close ∷ in_item.Close ∷ in_item.Close ∷ in_item.Close ∷ in_item.Close ∷ in_item.Close ∷ []

abbrev ends : List Mark
ends = Ends_objects ∷ Ends_objects ∷ Ends_objects ∷ Ends_objects ∷ Ends_objects ∷ Ends_objects ∷ Ends_objects ∷ Ends_objects ∷ []

abbrev whole_items : Ident → List Item → List Item
whole_items object inside =
    in_item.Open 0 (in_item.VarDecl Const injected) ∷ in_item.Open 1 in_item.VarDeclarator ∷ in_item.Open 0 in_item.BindingIdent ∷ in_item.Ident 0 object.0 object.1 Binding ∷ in_item.Close
    ∷ in_item.Open 1 in_item.CallExpr ∷ in_item.Open 0 in_item.FnExpr ∷ in_item.Open 1 (in_item.Function false false) ∷ in_item.Open 1 in_item.BlockStmt ∷ in_item.Open 0 in_item.ReturnStmt ∷ in_item.Open 0 in_item.ObjectLit ∷ inside

items-whole : (object : Ident) (pairs : Pairs) → namespace_object injected object pairs ≡ whole_items object (flat_map returned_property pairs ++ closes)
items-whole object pairs = simp append_assoc

abbrev whole_marks : List Mark → List Mark
whole_marks inside =
    Begins 0 (in_item.VarDecl Const no_notes) ∷ Begins 1 in_item.VarDeclarator ∷ Begins 0 in_item.BindingIdent ∷ Name 0 (Known (Of (Namespace 0))) ∷ Ends_objects
    ∷ Begins 1 in_item.CallExpr ∷ Begins 0 in_item.FnExpr ∷ Begins 1 (in_item.Function false false) ∷ Begins 1 in_item.BlockStmt ∷ Begins 0 in_item.ReturnStmt ∷ Begins 0 in_item.ObjectLit ∷ inside

marks-whole : (targets : List NamedTarget) → form.namespace_object 0 targets ≡ whole_marks (flat_map form.property targets ++ ends)
marks-whole targets = simp append_assoc

shape-whole : (object : Ident) (pairs : Pairs) → shape (namespace_object injected object pairs) ≡ form_shape (form.namespace_object 0 (map target_of pairs))
shape-whole object pairs =
    let tree : List Item = whole_items object (flat_map returned_property pairs ++ closes) in
    ap shape (items-whole object pairs)
    ∙ shape-along tree
    ∙ ap (λ more. form_shape (whole_marks []) ++ more) (shape-properties tree _ _ pairs closes (form_shape ends) (λ place. refl) _)
    ∙ ap (λ more. form_shape (whole_marks []) ++ more) (sym (form_shape-append (flat_map form.property (map target_of pairs)) ends))
    ∙ sym (ap form_shape (marks-whole (map target_of pairs)))

names-whole : (object : Ident) (pairs : Pairs) → AreExportsApart pairs → idents (namespace_object injected object pairs) ≡ map (property_ident object pairs) (names_in (form.namespace_object 0 (map target_of pairs)))
names-whole object pairs apart =
    let names : names_in (form.namespace_object 0 (map target_of pairs)) ≡ Known (Of (Namespace 0)) ∷ map (λ pair. Known (Of (Declared 0 pair.0))) pairs =
    ap names_in (marks-whole (map target_of pairs)) ∙ ap (λ more. Known (Of (Namespace 0)) ∷ more) (names-append (flat_map form.property (map target_of pairs)) ends ∙ append-nil (names_in (flat_map form.property (map target_of pairs))) ∙ names-properties pairs) in
    ap idents (items-whole object pairs)
    ∙ ap (λ more. object ∷ more) (idents-properties pairs closes (λ spot. refl) _)
    ∙ ap (λ more. object ∷ more) (sym (meant-idents object pairs pairs ∙ own-idents object pairs apart))
    ∙ ap (map (property_ident object pairs)) (sym names)

pub namespace_is_built : (object : Ident) (pairs : Pairs) → AreExportsApart pairs → IsNamespaceItem object pairs (namespace_object injected object pairs)
namespace_is_built object pairs apart = record { built = record { its_shape = shape-whole object pairs; names = names-whole object pairs apart }; noted = refl }

-- ---- order

-- each element fails the test
abbrev NoneOf : {X : Type 0} → (X → Bool) → List X → Type 0
NoneOf q [] = ⊤
NoneOf q (x ∷ xs) = (q x ≡ false) × NoneOf q xs

-- none is less than one before it
abbrev Rising : {X : Type 0} → (X → X → Bool) → List X → Type 0
Rising lt [] = ⊤
Rising lt (x ∷ xs) = NoneOf (λ y. lt y x) xs × Rising lt xs

-- by what a test answers
by_test : {G : Type 0} (b : Bool) → (b ≡ true → G) → (b ≡ false → G) → G
by_test true f g = f refl
by_test false f g = g refl

-- What a filter keeps at the head.

takes : {X : Type 0} (p : X → Bool) (x : X) (xs : List X) → p x ≡ true → filter p (x ∷ xs) ≡ x ∷ filter p xs
takes p x xs e = ap (λ c. cond c (x ∷ filter p xs) (filter p xs)) e

drops : {X : Type 0} (p : X → Bool) (x : X) (xs : List X) → p x ≡ false → filter p (x ∷ xs) ≡ filter p xs
drops p x xs e = ap (λ c. cond c (x ∷ filter p xs) (filter p xs)) e

nil_is_no_row : {X : Type 0} (x : X) (xs : List X) → [] ≡ x ∷ xs → ⊥
nil_is_no_row x xs e = false≢true (ap (λ l. elim l [ [] ↦ false | y ∷ ys ↦ true ]) e)

-- the first that is kept is one of the list
kept_first : {X : Type 0} (p q : X → Bool) (xs : List X) (b : X) (zs : List X) → NoneOf q xs → filter p xs ≡ b ∷ zs → q b ≡ false
kept_first p q [] b zs none e = absurd (nil_is_no_row b zs e)
kept_first p q (x ∷ xs) b zs none e =
    by_test (p x) (λ px. sym (ap q (ap (λ l. get_or l 0 x) (sym (takes p x xs px) ∙ e))) ∙ none.0) (λ px. kept_first p q xs b zs none.1 (sym (drops p x xs px) ∙ e))

-- Two lists that rise, in which elements that tie stand alike, are one.

not_itself : {X : Type 0} (lt : X → X → Bool) → IsStrictWeakOrder lt → (x : X) → lt x x ≡ false
not_itself lt o x = by_test (lt x x) (λ e. o.one_way x x e) (λ e. e)

tie : {X : Type 0} (lt : X → X → Bool) (x y : X) → lt x y ≡ false → lt y x ≡ false → ties lt x y ≡ true
tie lt x y xy yx = ap (λ c. not c && not (lt y x)) xy ∙ ap (λ c. not false && not c) yx

same_rest : {X : Type 0} (p : X → Bool) (a b : X) (xs ys : List X) → a ≡ b → filter p (a ∷ xs) ≡ filter p (b ∷ ys) → filter p xs ≡ filter p ys
same_rest p a b xs ys e h =
    let h' : filter p (a ∷ xs) ≡ filter p (a ∷ ys) = h ∙ ap (λ z. filter p (z ∷ ys)) (sym e) in
    by_test (p a) (λ pa. ap (drop 1) (sym (takes p a xs pa) ∙ h' ∙ takes p a ys pa)) (λ pa. sym (drops p a xs pa) ∙ h' ∙ drops p a ys pa)

one_order : {X : Type 0} (lt : X → X → Bool) → IsStrictWeakOrder lt → (xs ys : List X) → Rising lt xs → Rising lt ys → ((x : X) → filter (ties lt x) xs ≡ filter (ties lt x) ys) → xs ≡ ys
one_order lt o [] [] rx ry same = refl
one_order lt o [] (b ∷ ys) rx ry same = absurd (nil_is_no_row b (filter (ties lt b) ys) (same b ∙ takes (ties lt b) b ys (tie lt b b (not_itself lt o b) (not_itself lt o b))))
one_order lt o (a ∷ xs) [] rx ry same = absurd (nil_is_no_row a (filter (ties lt a) xs) (sym (same a) ∙ takes (ties lt a) a xs (tie lt a a (not_itself lt o a) (not_itself lt o a))))
one_order lt o (a ∷ xs) (b ∷ ys) rx ry same =
    let aa = not_itself lt o a in
    let bb = not_itself lt o b in
    let first = takes (ties lt a) a xs (tie lt a a aa aa) in
    let ba : lt b a ≡ false = kept_first (ties lt b) (λ y. lt y a) (a ∷ xs) b (filter (ties lt b) ys) (aa, rx.0) (same b ∙ takes (ties lt b) b ys (tie lt b b bb bb)) in
    let ab : lt a b ≡ false = kept_first (ties lt a) (λ y. lt y b) (b ∷ ys) a (filter (ties lt a) xs) (bb, ry.0) (sym (same a) ∙ first) in
    let head : a ≡ b = ap (λ l. get_or l 0 a) (sym first ∙ same a ∙ takes (ties lt a) b ys (tie lt a b ab ba)) in
    ap (λ z. z ∷ xs) head ∙ ap (λ l. b ∷ l) (one_order lt o xs ys rx.1 ry.1 (λ x. same_rest (ties lt x) a b xs ys head (same x)))

-- What a sort says, by recursion.

none_of : {X : Type 0} (q : X → Bool) (xs : List X) → ((j : ℕ) (d : X) → j < length xs → q (get_or xs j d) ≡ false) → NoneOf q xs
none_of q [] all = tt
none_of q (x ∷ xs) all = (all 0 x (omega arith), none_of q xs (λ j d lt. all (suc j) d (omega (arith, lt))))

rising_from : {X : Type 0} (lt : X → X → Bool) → IsStrictWeakOrder lt → (xs : List X) → IsSortedBy lt xs → Rising lt xs
rising_from lt o [] up = tt
rising_from lt o (x ∷ xs) up = (
  none_of (λ y. lt y x) xs (λ j d within. sorted_far lt o (x ∷ xs) up 0 (suc j) d (omega arith) (omega (arith, within))),
  rising_from lt o xs (λ k d from within. ap (λ n. lt (get_or (x ∷ xs) n d) (get_or xs k d)) (let same : suc (k + 1) ≡ suc k + 1 = omega arith in same) ∙ up (suc k) d (omega arith) (omega (arith, within))),
)

-- By names.

abbrev Pair : Type 0
Pair = Text × Ident

-- elements that show pairs, by the names of these
abbrev name_less : {X : Type 0} → (X → Pair) → X → X → Bool
name_less f x y = is_lt (slice_cmp nat_cmp (f x).0 (f y).0)

name_order : {X : Type 0} (f : X → Pair) → IsStrictWeakOrder (name_less f)
name_order f = ranks_by nat_list_cmp_total (λ x. (f x).0)

-- an element more, at its place by the name, and all of them so
abbrev put : {X : Type 0} → (X → Pair) → X → List X → List X
put f x [] = x ∷ []
put f x (y ∷ rest) = cond (name_less f y x) (y ∷ put f x rest) (x ∷ y ∷ rest)

abbrev put_all : {X : Type 0} → (X → Pair) → List X → List X
put_all f [] = []
put_all f (x ∷ xs) = put f x (put_all f xs)

less_is : (o : Ordering) → is_less o ≡ is_lt o
less_is Less = refl
less_is Equal = refl
less_is Greater = refl

-- where an element goes
put_behind : {X : Type 0} (f : X → Pair) (x y : X) (rest : List X) → name_less f y x ≡ true → put f x (y ∷ rest) ≡ y ∷ put f x rest
put_behind f x y rest e = ap (λ c. cond c (y ∷ put f x rest) (x ∷ y ∷ rest)) e

put_before : {X : Type 0} (f : X → Pair) (x y : X) (rest : List X) → name_less f y x ≡ false → put f x (y ∷ rest) ≡ x ∷ y ∷ rest
put_before f x y rest e = ap (λ c. cond c (y ∷ put f x rest) (x ∷ y ∷ rest)) e

none_of-put : {X : Type 0} (f : X → Pair) (q : X → Bool) (x : X) (xs : List X) → q x ≡ false → NoneOf q xs → NoneOf q (put f x xs)
none_of-put f q x [] e none = (e, tt)
none_of-put f q x (y ∷ rest) e none =
    by_test (name_less f y x) (λ is. subst (NoneOf q) (sym (put_behind f x y rest is)) (none.0, none_of-put f q x rest e none.1)) (λ is. subst (NoneOf q) (sym (put_before f x y rest is)) (e, none))

none_below : {X : Type 0} (f : X → Pair) (x y : X) (xs : List X) → name_less f y x ≡ false → NoneOf (λ z. name_less f z y) xs → NoneOf (λ z. name_less f z x) xs
none_below f x y [] e none = tt
none_below f x y (z ∷ xs) e none = ((name_order f).chain z y x none.0 e, none_below f x y xs e none.1)

rising-put : {X : Type 0} (f : X → Pair) (x : X) (xs : List X) → Rising (name_less f) xs → Rising (name_less f) (put f x xs)
rising-put f x [] rising = (tt, tt)
rising-put f x (y ∷ rest) rising =
    by_test (name_less f y x)
    (λ is. subst (Rising (name_less f)) (sym (put_behind f x y rest is)) (none_of-put f (λ z. name_less f z y) x rest ((name_order f).one_way y x is) rising.0, rising-put f x rest rising.1))
    (λ is. subst (Rising (name_less f)) (sym (put_before f x y rest is)) ((is, none_below f x y rest is rising.0), rising))

rising-put_all : {X : Type 0} (f : X → Pair) (xs : List X) → Rising (name_less f) (put_all f xs)
rising-put_all f [] = tt
rising-put_all f (x ∷ xs) = rising-put f x (put_all f xs) (rising-put_all f xs)

neither : (s t : Bool) → (not s && not t) ≡ true → (s ≡ false) × (t ≡ false)
neither true t e = absurd (false≢true e)
neither false true e = absurd (false≢true e)
neither false false e = (refl, refl)

-- no element ties with two of which one is less
ties_with_one : {X : Type 0} (f : X → Pair) (x y z : X) → name_less f z y ≡ true → ties (name_less f) x z ≡ true → ties (name_less f) x y ≡ false
ties_with_one f x y z less to_z =
    by_test (ties (name_less f) x y)
    (λ to_y. absurd (false≢true (sym ((name_order f).chain z x y (neither (name_less f x z) (name_less f z x) to_z).1 (neither (name_less f x y) (name_less f y x) to_y).0) ∙ less)))
    (λ e. e)

-- past an element that is left out beside another, the other stands first as well
swapped : {X : Type 0} (p : X → Bool) (x y : X) (rest put_in : List X) → (p y ≡ true → p x ≡ false) → filter p put_in ≡ filter p (x ∷ rest) → filter p (y ∷ put_in) ≡ filter p (x ∷ y ∷ rest)
swapped p x y rest put_in apart is =
    by_test (p y)
    (λ py. takes p y put_in py ∙ ap (λ l. y ∷ l) (is ∙ drops p x rest (apart py)) ∙ sym (takes p y rest py) ∙ sym (drops p x (y ∷ rest) (apart py)))
    (λ py. drops p y put_in py ∙ is ∙ by_test (p x)
    (λ px. takes p x rest px ∙ ap (λ l. x ∷ l) (sym (drops p y rest py)) ∙ sym (takes p x (y ∷ rest) px))
    (λ px. drops p x rest px ∙ sym (drops p y rest py) ∙ sym (drops p x (y ∷ rest) px)))

stable-put : {X : Type 0} (f : X → Pair) (t x : X) (xs : List X) → filter (ties (name_less f) t) (put f x xs) ≡ filter (ties (name_less f) t) (x ∷ xs)
stable-put f t x [] = refl
stable-put f t x (y ∷ rest) =
    by_test (name_less f y x)
    (λ is. ap (filter (ties (name_less f) t)) (put_behind f x y rest is) ∙ swapped (ties (name_less f) t) x y rest (put f x rest) (ties_with_one f t x y is) (stable-put f t x rest))
    (λ is. ap (filter (ties (name_less f) t)) (put_before f x y rest is))

-- one more in front of lists that are kept alike
kept_more : {X : Type 0} (p : X → Bool) (x : X) (xs ys : List X) → filter p xs ≡ filter p ys → filter p (x ∷ xs) ≡ filter p (x ∷ ys)
kept_more p x xs ys is = ap (λ l. cond (p x) (x ∷ l) l) is

stable-put_all : {X : Type 0} (f : X → Pair) (t : X) (xs : List X) → filter (ties (name_less f) t) (put_all f xs) ≡ filter (ties (name_less f) t) xs
stable-put_all f t [] = refl
stable-put_all f t (x ∷ xs) = stable-put f t x (put_all f xs) ∙ kept_more (ties (name_less f) t) x (put_all f xs) xs (stable-put_all f t xs)

-- the pairs that are shown
put-shown : {X : Type 0} (f : X → Pair) (x : X) (xs : List X) → map f (put f x xs) ≡ put_by_name (f x) (map f xs)
put-shown f x [] = refl
put-shown f x (y ∷ rest) =
    let o : Ordering = slice_cmp nat_cmp (f y).0 (f x).0 in
    by_test (is_lt o)
    (λ is. ap (map f) (put_behind f x y rest is) ∙ ap (λ l. f y ∷ l) (put-shown f x rest) ∙ sym (ap (λ c. cond c (f y ∷ put_by_name (f x) (map f rest)) (f x ∷ f y ∷ map f rest)) (less_is o ∙ is)))
    (λ is. ap (map f) (put_before f x y rest is) ∙ sym (ap (λ c. cond c (f y ∷ put_by_name (f x) (map f rest)) (f x ∷ f y ∷ map f rest)) (less_is o ∙ is)))

put_all-shown : {X : Type 0} (f : X → Pair) (xs : List X) → map f (put_all f xs) ≡ by_names (map f xs)
put_all-shown f [] = refl
put_all-shown f (x ∷ xs) = put-shown f x (put_all f xs) ∙ ap (put_by_name (f x)) (put_all-shown f xs)

pub sorted_is : {X : Type 0} (f : X → Pair) (xs ys : List X) → IsSortedBy (name_less f) ys → IsStableBy (name_less f) xs ys → map f ys ≡ by_names (map f xs)
sorted_is f xs ys sorted stable =
    ap (map f) (one_order (name_less f) (name_order f) ys (put_all f xs) (rising_from (name_less f) (name_order f) ys sorted) (rising-put_all f xs) (λ t. stable t ∙ sym (stable-put_all f t xs)))
    ∙ put_all-shown f xs
