-- What a linker writes beside the statements, where labels are others.
-- What a statement means, where labels are others: the marks are the same but for their labels.
use Rattle.std.proofs.Common.{◌≡◌, ℕ, Bool, true, false, List, [], ◌∷◌, ◌++◌, map, refl, ap, ap₂, ◌∙◌, if◌then◌else◌, ◌+◌, ◌&&◌, sym, subst}
use Rattle.std.specs.Prelude.{codes, flat_map, bytes_eq, slice_get}
use Rattle.std.proofs.lemmas.List.{map-append}
use Rattle.bundle_syntax.specs.declared.kind.VarDeclKind.{VarDeclKind}
use Rattle.bundle_syntax.specs.declared.kind.VarDeclKind.TheVariants.{Var, Const}
use Rattle.bundle_syntax.specs.Item as h
use Rattle.bundle_syntax.specs.Item.{Head, Item}
use Rattle.bundle_rules.specs.Nodes.{Text}
use Rattle.bundle_rules.specs.Statements.{no_notes, Element}
use Rattle.bundle_rules.specs.Entries.{Named, Whole}
use Rattle.bundle_rules.specs.Linking.{Namespace, External, CommonJs}
use Rattle.bundle_rules.specs.Marks.{Begins, Ends, Word, word_key, computed_key, MarkOf, Name, object_key, begin_marks, end_marks, name_marks}
use Rattle.bundle_rules.specs.Meaning
use Rattle.bundle_rules.specs.Meaning.{Label, Of, Meta, Mark, Meant, View, Sense, Replacement, ByName, ByCall, NameMeans, Means, StatementMeans, Replaced, OwnName, OwnMeaning, own_view, inner_bindings, replacement_marks}
use Rattle.bundle_rules.specs.Injected.{NamedTarget, marks_node, is_ascii_identifier, string_marks, export_name, key_marks, stands_for, declares, declarator, declaration, import_specifier, import_names, export_specifier, export_list, property, object, return_object, namespace_object, meta_object, load_call, load_property, load_pattern, load_statement}
use Rattle.bundle_rules.specs.Places.{Around, path_at}
use Rattle.bundle_rules.specs.Scopes.{ModuleKind}
use Rattle.bundle_rules.specs.Declarations.{BySymbol}
use Rattle.bundle_rules.specs.Denotes.{Denoted, Bound}
use Rattle.bundle_rules.specs.Shorthands.{has_default, is_shorthand_in_pattern, is_object, symbol_of}
use Rattle.bundle_rules.specs.Program.{Program}
use Rattle.bundle_link.specs.Alike.{IsAlike}
use Rattle.bundle_link.proofs.AlikeLemmas.{flip}
use Rattle.bundle_merge_theory.specs.moved.Renumbered.{label_by, meant_by, mark_with, marks_by, pair_by, replacement_by}
use Rattle.bundle_merge_theory.proofs.moved.Due.{replaced-by, replaced_there, own-by, kind-by}

-- ---- forms
module _ (name : ℕ → ℕ) where
  abbrev with_names : List Mark → List Mark
  with_names = marks_by name

  join-map : (xs ys us vs : List Mark) → with_names xs ≡ us → with_names ys ≡ vs →
      with_names (xs ++ ys) ≡ us ++ vs
  join-map xs ys us vs one two =
      map-append (mark_with (meant_by name)) xs ys ∙ ap₂ (λ l m. l ++ m) one two

  either-map : (b : Bool) (xs ys : List Mark) → with_names xs ≡ xs → with_names ys ≡ ys →
      with_names (if b then xs else ys) ≡ (if b then xs else ys)
  either-map true xs ys one two = one
  either-map false xs ys one two = two

  node-map : (field : ℕ) (head : Head) (xs us : List Mark) → with_names xs ≡ us →
      with_names (marks_node field head xs) ≡ marks_node field head us
  node-map field head xs us one =
      ap (λ more. Begins field head ∷ more) (join-map xs (Ends ∷ []) us (Ends ∷ []) one refl)

  flat-map : {A B : Type 0} (f : A → List Mark) (g : B → List Mark) (to : A → B) →
      ((x : A) → with_names (f x) ≡ g (to x)) → (xs : List A) →
      with_names (flat_map f xs) ≡ flat_map g (map to xs)
  flat-map f g to each [] = refl
  flat-map f g to each (x ∷ xs) =
      join-map (f x) (flat_map f xs) (g (to x)) (flat_map g (map to xs)) (each x)
      (flat-map f g to each xs)

  same-map : {A : Type 0} (f g : A → List Mark) → ((x : A) → with_names (f x) ≡ g x) →
      (xs : List A) → with_names (flat_map f xs) ≡ flat_map g xs
  same-map f g each [] = refl
  same-map f g each (x ∷ xs) =
      join-map (f x) (flat_map f xs) (g x) (flat_map g xs) (each x) (same-map f g each xs)

  export-name-map : (field : ℕ) (x : Text) →
      with_names (export_name field x) ≡ export_name field x
  export-name-map field x =
      either-map (is_ascii_identifier x) (Word field x ∷ []) (string_marks field x) refl refl

  keys-map : (x : Text) → with_names (key_marks x) ≡ key_marks x
  keys-map x =
      either-map (bytes_eq x (codes "__proto__")) (computed_key x)
      (if is_ascii_identifier x then word_key x else string_marks 0 x) refl
      (either-map (is_ascii_identifier x) (word_key x) (string_marks 0 x) refl refl)

  -- imports
  pub import-names-map : (s : Text) (names : List Text) →
      with_names (import_names s names) ≡ import_names s names
  import-names-map s names =
      node-map 0 (h.ImportDecl no_notes) (flat_map (import_specifier s) names ++ string_marks 1 s)
      (flat_map (import_specifier s) names ++ string_marks 1 s)
      (join-map (flat_map (import_specifier s) names) (string_marks 1 s)
      (flat_map (import_specifier s) names) (string_marks 1 s)
      (same-map (import_specifier s) (import_specifier s) (λ x.
      node-map 0 h.ImportNamedSpecifier
      (stands_for 0 (Of (External s (Named x))) ++ export_name 1 x)
      (stands_for 0 (Of (External s (Named x))) ++ export_name 1 x)
      (join-map (stands_for 0 (Of (External s (Named x)))) (export_name 1 x)
      (stands_for 0 (Of (External s (Named x)))) (export_name 1 x) refl (export-name-map 1 x)))
      names) refl)

  -- exports
  pub export-list-map : (pairs : List NamedTarget) →
      with_names (export_list pairs) ≡ export_list (map (pair_by name) pairs)
  export-list-map pairs =
      node-map 0 (h.NamedExport no_notes) (flat_map export_specifier pairs)
      (flat_map export_specifier (map (pair_by name) pairs))
      (flat-map export_specifier export_specifier (pair_by name) (λ pair.
      node-map 0 h.ExportNamedSpecifier
      (stands_for 0 (Of pair.1) ++ export_name 1 pair.0)
      (stands_for 0 (Of (pair_by name pair).1) ++ export_name 1 pair.0)
      (join-map (stands_for 0 (Of pair.1)) (export_name 1 pair.0)
      (stands_for 0 (Of (pair_by name pair).1)) (export_name 1 pair.0) refl
      (export-name-map 1 pair.0))) pairs)

  object-map : (field : ℕ) (pairs : List NamedTarget) →
      with_names (object field pairs) ≡ object field (map (pair_by name) pairs)
  object-map field pairs =
      node-map field h.ObjectLit (flat_map property pairs)
      (flat_map property (map (pair_by name) pairs))
      (flat-map property property (pair_by name) (λ pair.
      node-map 0 h.KeyValueProp (key_marks pair.0 ++ stands_for 1 (Of pair.1))
      (key_marks pair.0 ++ stands_for 1 (Of (pair_by name pair).1))
      (join-map (key_marks pair.0) (stands_for 1 (Of pair.1)) (key_marks pair.0)
      (stands_for 1 (Of (pair_by name pair).1)) (keys-map pair.0) refl)) pairs)

  pub return-map : (pairs : List NamedTarget) →
      with_names (return_object pairs) ≡ return_object (map (pair_by name) pairs)
  return-map pairs =
      node-map 0 h.ReturnStmt (object 0 pairs) (object 0 (map (pair_by name) pairs))
      (object-map 0 pairs)

  -- declarations
  declares-map : (field : ℕ) (l : Label) →
      with_names (declares field l) ≡ declares field (label_by name l)
  declares-map field l =
      node-map field h.BindingIdent (stands_for 0 l) (stands_for 0 (label_by name l)) refl

  declarator-map : (xs ys us vs : List Mark) → with_names xs ≡ us → with_names ys ≡ vs →
      with_names (declarator xs ys) ≡ declarator us vs
  declarator-map xs ys us vs one two =
      node-map 1 h.VarDeclarator (xs ++ ys) (us ++ vs) (join-map xs ys us vs one two)

  declaration-map : (kind : VarDeclKind) (xs us : List Mark) → with_names xs ≡ us →
      with_names (declaration kind xs) ≡ declaration kind us
  declaration-map kind xs us one = node-map 0 (h.VarDecl kind no_notes) xs us one

  abbrev in_body : List NamedTarget → List Mark
  in_body pairs = marks_node 1 h.BlockStmt (return_object pairs)

  abbrev in_function : List NamedTarget → List Mark
  in_function pairs = marks_node 1 (h.Function false false) (in_body pairs)

  abbrev in_call : List NamedTarget → List Mark
  in_call pairs = marks_node 0 h.FnExpr (in_function pairs)

  abbrev held : List NamedTarget → List Mark
  held pairs = marks_node 1 h.CallExpr (in_call pairs)

  held-map : (pairs : List NamedTarget) → with_names (held pairs) ≡ held (map (pair_by name) pairs)
  held-map pairs =
      let its : List NamedTarget = map (pair_by name) pairs in
      node-map 1 h.CallExpr (in_call pairs) (in_call its)
      (node-map 0 h.FnExpr (in_function pairs) (in_function its)
      (node-map 1 (h.Function false false) (in_body pairs) (in_body its)
      (node-map 1 h.BlockStmt (return_object pairs) (return_object its) (return-map pairs))))

  pub namespace-map : (d : ℕ) (pairs : List NamedTarget) →
      with_names (namespace_object d pairs)
      ≡ namespace_object (name d) (map (pair_by name) pairs)
  namespace-map d pairs =
      declaration-map Const (declarator (declares 0 (Of (Namespace d))) (held pairs))
      (declarator (declares 0 (Of (Namespace (name d)))) (held (map (pair_by name) pairs)))
      (declarator-map (declares 0 (Of (Namespace d))) (held pairs)
      (declares 0 (Of (Namespace (name d)))) (held (map (pair_by name) pairs))
      (declares-map 0 (Of (Namespace d))) (held-map pairs))

  pub meta-map : (m : ℕ) (marks : List Mark) →
      with_names (meta_object m marks) ≡ meta_object (name m) (with_names marks)
  meta-map m marks =
      declaration-map Const (declarator (declares 0 (Meta m)) (marks_node 1 h.ObjectLit marks))
      (declarator (declares 0 (Meta (name m))) (marks_node 1 h.ObjectLit (with_names marks)))
      (declarator-map (declares 0 (Meta m)) (marks_node 1 h.ObjectLit marks)
      (declares 0 (Meta (name m))) (marks_node 1 h.ObjectLit (with_names marks))
      (declares-map 0 (Meta m)) (node-map 1 h.ObjectLit marks (with_names marks) refl))

  -- loads
  abbrev whole_label : ℕ → ℕ → Label
  whole_label m c = Of (CommonJs m c Whole)

  pattern-map : (m c : ℕ) (names : List Text) →
      with_names (load_pattern m c names) ≡ load_pattern (name m) (name c) names
  pattern-map m c names =
      node-map 0 h.ObjectPat (flat_map (load_property m c) names)
      (flat_map (load_property (name m) (name c)) names)
      (same-map (load_property m c) (load_property (name m) (name c)) (λ x.
      node-map 0 h.KeyValuePatProp
      (key_marks x ++ declares 1 (Of (CommonJs m c (Named x))))
      (key_marks x ++ declares 1 (Of (CommonJs (name m) (name c) (Named x))))
      (join-map (key_marks x) (declares 1 (Of (CommonJs m c (Named x)))) (key_marks x)
      (declares 1 (Of (CommonJs (name m) (name c) (Named x)))) (keys-map x)
      (declares-map 1 (Of (CommonJs m c (Named x)))))) names)

  pub load-map : (m c : ℕ) (whole : Bool) (names : List Text) →
      with_names (load_statement m c whole names)
      ≡ load_statement (name m) (name c) whole names
  load-map m c false [] = refl
  load-map m c false (x ∷ more) =
      declaration-map Var (declarator (load_pattern m c (x ∷ more)) (load_call 1 c))
      (declarator (load_pattern (name m) (name c) (x ∷ more)) (load_call 1 (name c)))
      (declarator-map (load_pattern m c (x ∷ more)) (load_call 1 c)
      (load_pattern (name m) (name c) (x ∷ more)) (load_call 1 (name c))
      (pattern-map m c (x ∷ more)) refl)
  load-map m c true [] = refl
  load-map m c true (x ∷ more) =
      declaration-map Var
      (declarator (declares 0 (whole_label m c)) (load_call 1 c)
      ++ declarator (load_pattern m c (x ∷ more)) (stands_for 1 (whole_label m c)))
      (declarator (declares 0 (whole_label (name m) (name c))) (load_call 1 (name c))
      ++ declarator (load_pattern (name m) (name c) (x ∷ more))
      (stands_for 1 (whole_label (name m) (name c))))
      (join-map (declarator (declares 0 (whole_label m c)) (load_call 1 c))
      (declarator (load_pattern m c (x ∷ more)) (stands_for 1 (whole_label m c)))
      (declarator (declares 0 (whole_label (name m) (name c))) (load_call 1 (name c)))
      (declarator (load_pattern (name m) (name c) (x ∷ more))
      (stands_for 1 (whole_label (name m) (name c))))
      refl
      (declarator-map (load_pattern m c (x ∷ more)) (stands_for 1 (whole_label m c))
      (load_pattern (name m) (name c) (x ∷ more)) (stands_for 1 (whole_label (name m) (name c)))
      (pattern-map m c (x ∷ more)) refl))

-- ---- means

-- Marks with something else in the place of names.

module _ {N M : Type 0} (f : N → M) where
  abbrev with_them : List (MarkOf N) → List (MarkOf M)
  with_them = map (mark_with f)

  if-map : (b : Bool) (xs ys : List (MarkOf N)) (us vs : List (MarkOf M)) → with_them xs ≡ us →
      with_them ys ≡ vs → with_them (if b then xs else ys) ≡ (if b then us else vs)
  if-map true xs ys us vs one two = one
  if-map false xs ys us vs one two = two

  pub key-map : (x : Text) → with_them (object_key x) ≡ object_key x
  key-map x =
      if-map (bytes_eq x (codes "__proto__")) (computed_key x) (word_key x) (computed_key x)
      (word_key x) refl refl

  shorthand-map : (tree : List Item) (place field : ℕ) (around : List Around) →
      with_them (begin_marks tree place field around h.AssignPatProp)
      ≡ begin_marks tree place field around h.AssignPatProp
  shorthand-map tree place field around =
      ap
      (λ more. Begins field h.KeyValuePatProp
      ∷ (word_key (symbol_of (slice_get tree (place + 2))) ++ more))
      (if-map (has_default tree place) (Begins 1 h.AssignPat ∷ []) [] (Begins 1 h.AssignPat ∷ [])
      [] refl refl)

  pub begin-map : (tree : List Item) (place field : ℕ) (around : List Around) (head : Head) →
      with_them (begin_marks tree place field around head)
      ≡ begin_marks tree place field around head
  begin-map tree place field around h.AssignPatProp = shorthand-map tree place field around
  begin-map tree place field [] _ = refl
  begin-map tree place field (node ∷ outer) _ = refl

  pub end-map : (tree : List Item) (around : List Around) →
      with_them (end_marks tree around) ≡ end_marks tree around
  end-map tree [] = refl
  end-map tree (node ∷ outer) =
      if-map (is_shorthand_in_pattern node.head && has_default tree node.begins)
      (Ends ∷ Ends ∷ []) (Ends ∷ []) (Ends ∷ Ends ∷ []) (Ends ∷ []) refl refl

  pub name-map : (field : ℕ) (around : List Around) (x : Text) (n : N) →
      with_them (name_marks field around x n) ≡ name_marks field around x (f n)
  name-map field [] x n = refl
  name-map field (node ∷ outer) x n =
      if-map (is_object node.head)
      (Begins field h.KeyValueProp ∷ (object_key x ++ Name 1 n ∷ Ends ∷ []))
      (Name field n ∷ [])
      (Begins field h.KeyValueProp ∷ (object_key x ++ Name 1 (f n) ∷ Ends ∷ []))
      (Name field (f n) ∷ [])
      (ap (λ more. Begins field h.KeyValueProp ∷ more)
      (map-append (mark_with f) (object_key x) (Name 1 n ∷ Ends ∷ [])
      ∙ ap (λ key. key ++ Name 1 (f n) ∷ Ends ∷ []) (key-map x)))
      refl

-- Meanings.

module _ (name : ℕ → ℕ) (view : View) (replaced its_replaced : ℕ → Replacement → Type 0)
    (Stands ItsStands : Denoted → Label → Type 0)
    (forth : (place : ℕ) (by : Replacement) → replaced place by →
    its_replaced place (replacement_by name by))
    (back : (place : ℕ) (by : Replacement) → its_replaced place by →
    ((other : Replacement) → replaced place other → ⊥) → ⊥)
    (stands : (d : Denoted) (l : Label) → Stands d l → ItsStands d (label_by name l)) where
  abbrev one : Sense
  one = record { view = view; replaced = replaced; Stands = Stands }

  abbrev two : Sense
  two = record { view = view; replaced = its_replaced; Stands = ItsStands }

  name-by : (inner : List Denoted) {d : Denoted} {meant : Meant} → NameMeans one inner d meant →
      NameMeans two inner d (meant_by name meant)
  name-by inner (Meaning.inside e) = Meaning.inside e
  name-by inner (Meaning.outside {scope = scope} {name = x} {l = l} e is) =
      Meaning.outside e (stands (Bound scope x) l is)
  name-by inner Meaning.unbound = Meaning.unbound

  put : (inner : List Denoted) (elements : List Element) (first its : List Mark)
      (marks : List Mark) → marks_by name first ≡ its →
      Means two inner elements (its ++ marks_by name marks) →
      Means two inner elements (marks_by name (first ++ marks))
  put inner elements first its marks e means =
      subst (Means two inner elements)
      (ap (λ l. l ++ marks_by name marks) (sym e)
      ∙ sym (map-append (mark_with (meant_by name)) first marks)) means

  replacement-map : (field : ℕ) (by : Replacement) →
      marks_by name (replacement_marks field by) ≡ replacement_marks field (replacement_by name by)
  replacement-map field (ByName l) = refl
  replacement-map field (ByCall l) = refl

  -- the same elements have the same meaning, with the other labels
  pub means-by : (inner : List Denoted) {elements : List Element} {marks : List Mark} →
      Means one inner elements marks → Means two inner elements (marks_by name marks)
  means-by inner Meaning.finished = Meaning.finished
  means-by inner (Meaning.replaced {place = place} {field = field} {marks = marks} by is more) =
      put inner _ (replacement_marks field by) (replacement_marks field (replacement_by name by))
      marks (replacement-map field by)
      (Meaning.replaced (replacement_by name by) (forth place by is) (means-by inner more))
  means-by inner (Meaning.begun {place = place} {field = field} {head = head} {marks = marks} none more) =
      put inner _ (begin_marks view.tree place field (path_at view.tree place) head) _ marks
      (begin-map (meant_by name) view.tree place field (path_at view.tree place) head)
      (Meaning.begun (λ by is. back place by is none) (means-by inner more))
  means-by inner (Meaning.ended {place = place} {marks = marks} more) =
      put inner _ (end_marks view.tree (path_at view.tree place)) _ marks
      (end-map (meant_by name) view.tree (path_at view.tree place))
      (Meaning.ended (means-by inner more))
  means-by inner (Meaning.empty more) = Meaning.empty (means-by inner more)
  means-by inner (Meaning.named {place = place} {field = field} {sym = x} {marks = marks} d meant is its
      more) =
      put inner _ (name_marks field (path_at view.tree place) x meant) _ marks
      (name-map (meant_by name) field (path_at view.tree place) x meant)
      (Meaning.named d (meant_by name meant) is (name-by inner its) (means-by inner more))
  means-by inner (Meaning.word more) = Meaning.word (means-by inner more)
  means-by inner (Meaning.adds_begin more) = Meaning.adds_begin (means-by inner more)
  means-by inner (Meaning.adds_end more) = Meaning.adds_end (means-by inner more)
  means-by inner (Meaning.adds_name meant its more) =
      Meaning.adds_name (meant_by name meant) (name-by inner its) (means-by inner more)

-- Own statements.

module _ (R : ℕ → ℕ → Type 0) (name : ℕ → ℕ) (names : (a b : ℕ) → R a b → name a ≡ b)
    (p q : Program) (w : IsAlike p q R) where
  abbrev sense_on : Program → ℕ → ModuleKind → List Item → Sense
  sense_on r c kind tree = record {
    view = record { tree = tree; kind = kind; reading = BySymbol };
    replaced = Replaced r c;
    Stands = OwnName r c;
  }

  replaced-back : (c d : ℕ) → R c d → (place : ℕ) (by : Replacement) → Replaced q d place by →
      ((other : Replacement) → Replaced p c place other → ⊥) → ⊥
  replaced-back c d r place by is none =
      let on = replaced_there q p (λ a b. R b a) (flip w) is c r in
      none on.0 on.1

  -- what a statement of a module means
  pub own-meaning : (c d : ℕ) → R c d → (statement : List Element) (marks : List Mark) →
      OwnMeaning p c statement marks → OwnMeaning q d statement (marks_by name marks)
  own-meaning c d r statement marks its =
      let view : View = own_view p c its.kind in
      record {
        kind = its.kind;
        has_kind = kind-by R name names p q w its.has_kind d r;
        means =
            subst
            (λ tree. StatementMeans (sense_on q d its.kind tree) 0 statement (marks_by name marks))
            (w.tree c d r)
            (means-by name view (Replaced p c) (Replaced q d) (OwnName p c) (OwnName q d)
            (λ place by is. replaced-by R name names p q w is d r) (replaced-back c d r)
            (λ e l is. own-by R name names p q w is d r)
            (inner_bindings view 0 statement) its.means);
      }
