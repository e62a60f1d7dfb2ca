-- The object of a namespace, by itself.
use Rattle.std.proofs.Common.{◌≡◌, ℕ, Bool, true, false, List, [], ◌∷◌, ◌++◌, Option, map, append_assoc, append-nil, codes, refl, sym, ◌∙◌, subst}
use Rattle.std.specs.Prelude.{flat_map, bytes_eq}
use Rattle.std.specs.List.{AllZip, list_any}
use Rattle.std.proofs.lemmas.Bool.{false≢true}
use Rattle.bundle_syntax.specs.declared.kind.VarDeclKind.TheVariants.{Const}
use Rattle.bundle_syntax.specs.declared.piece.Role.TheVariants as r
use Rattle.bundle_syntax.specs.Item as h
use Rattle.bundle_syntax.specs.Item.{Item}
use Rattle.bundle_rules.specs.Places.{Spot, occurrences_from}
use Rattle.bundle_rules.specs.Declarations.{ByConst}
use Rattle.bundle_rules.specs.Nodes.{Text}
use Rattle.bundle_rules.specs.Idents.{Ident}
use Rattle.bundle_rules.specs.Rebuilds.{Listed}
use Rattle.bundle_rules.specs.Statements.{no_notes}
use Rattle.bundle_rules.specs.Forms.{returned_property, returned_object}
use Rattle.bundle_rules.specs.Injected.{is_ascii_identifier, NamedTarget}
use Rattle.bundle_rules.specs.Injected as i
use Rattle.bundle_rules.specs.Program.{Program}
use Rattle.bundle_rules.specs.Linking.{Target, Namespace, Linked}
use Rattle.bundle_rules.specs.Meaning.{Label, Of, IsMeant, by_namespace, Known}
use Rattle.bundle_rules.specs.Bundle.{HoldsNamespace, AsModule, Hooks, IsDue, holds_namespace as namespace_due, AreLinked}
use Rattle.bundle_scope_names.specs.fit.Sorts.{AnItem, AnExpr, ACallee, AnArgument, AStmt, AProperty, One, Optional, Many, NodeSlot, slot}
use Rattle.bundle_scope_names.specs.fit.Fits.{AreFit, no_more, over, a_name, a_node, IsFit, node}
use Rattle.bundle_tree_places.specs.Edits as e
use Rattle.bundle_merge_injected.specs.Listed as l
use Rattle.bundle_merge_theory.proofs.joined.Declarations.{AreNamed, IsNamed as HasNames}
use Rattle.bundle_merge_theory.specs.walked.Renaming.{HasMarks}
use Rattle.bundle_merge_theory.proofs.walked.Loading.{means_of, written_of, namespace_marked, Import as Pair, namespace_lone}
use Rattle.bundle_merge_theory.specs.composed.Noted.{holds_namespace, first_spot}
use Rattle.bundle_merge_theory.specs.made.Given.{HookAnswer, BundleContexts, ident_of_label}
use Rattle.bundle_merge_theory.specs.made.Made.{linked_idents}
use Rattle.bundle_merge_theory.specs.made.Alone.{IsTopLabel, DeclaresLabel, adds, holds_namespace as adds_namespace, IsItemAlone}
use Rattle.bundle_merge_theory.proofs.added.Rows.{IsTopped, binds_it, topped-alone, read_name, first-bound, bound-first, none-read, rows_of, written-rows, target-rows, rows-tell}
use Rattle.bundle_merge_theory.proofs.added.LoadForms.{key_so, key-fits}

-- in the object that is returned
abbrev in_object : (place field : ℕ) → Spot
in_object place field = record {
  place = place;
  path =
      record { head = h.ObjectLit; begins = 11; field = field }
      ∷ record { head = h.ReturnStmt; begins = 10; field = 0 }
      ∷ record { head = h.BlockStmt; begins = 9; field = 0 }
      ∷ record { head = h.Function false false; begins = 8; field = 1 }
      ∷ record { head = h.FnExpr; begins = 7; field = 1 }
      ∷ record { head = h.CallExpr; begins = 6; field = 0 }
      ∷ record { head = h.VarDeclarator; begins = 2; field = 1 }
      ∷ record { head = h.VarDecl Const no_notes; begins = 1; field = 1 }
      ∷ record { head = h.Module; begins = 0; field = 0 }
      ∷ [];
}

abbrev one_property : Ident → Text → Bool → Bool → List Item
one_property id x computed plain =
    h.Open 0 h.KeyValueProp
    ∷ (key_so x computed plain ++ h.Ident 1 id.0 id.1 r.Reference ∷ h.Close ∷ [])

one-topped : (place field : ℕ) (id : Ident) (x : Text) (computed plain : Bool)
    (rest : List Item) (names : List Listed) →
    ((place field : ℕ) → AllZip IsTopped (occurrences_from (in_object place field) rest) names) →
    AllZip IsTopped
    (occurrences_from (in_object place field) (one_property id x computed plain ++ rest))
    ((id, false) ∷ names)
one-topped place field id x true plain rest names more = (
  record {
    ident = refl;
    binds = refl;
    home = λ is. absurd (false≢true is);
  },
  more _ _,
)
one-topped place field id x false true rest names more = (
  record {
    ident = refl;
    binds = refl;
    home = λ is. absurd (false≢true is);
  },
  more _ _,
)
one-topped place field id x false false rest names more = (
  record {
    ident = refl;
    binds = refl;
    home = λ is. absurd (false≢true is);
  },
  more _ _,
)

all-topped : (place field : ℕ) (pairs : List Pair) (rest : List Item) (names : List Listed) →
    ((place field : ℕ) → AllZip IsTopped (occurrences_from (in_object place field) rest) names) →
    AllZip IsTopped
    (occurrences_from (in_object place field) (flat_map returned_property pairs ++ rest))
    (map read_name pairs ++ names)
all-topped place field [] rest names more = more place field
all-topped place field (pair ∷ pairs) rest names more =
    subst
    (λ items. AllZip IsTopped (occurrences_from (in_object place field) items)
    (read_name pair ∷ (map read_name pairs ++ names)))
    (sym (append_assoc (returned_property pair) (flat_map returned_property pairs) rest))
    (one-topped place field pair.1 pair.0 (bytes_eq pair.0 (codes "__proto__"))
    (is_ascii_identifier pair.0) (flat_map returned_property pairs ++ rest)
    (map read_name pairs ++ names)
    (λ its_place its_field. all-topped its_place its_field pairs rest names more))

one-named : (id : Ident) (x : Text) (computed plain : Bool) (rest : List Item) → AreNamed rest →
    AreNamed (one_property id x computed plain ++ rest)
one-named id x true plain rest named =
    (refl, (refl, (refl, (refl, (refl, (refl, (refl, named)))))))
one-named id x false true rest named = (refl, (refl, (refl, (refl, (refl, named)))))
one-named id x false false rest named = (refl, (refl, (refl, (refl, (refl, named)))))

all-named : (pairs : List Pair) (rest : List Item) → AreNamed rest →
    AreNamed (flat_map returned_property pairs ++ rest)
all-named [] rest named = named
all-named (pair ∷ pairs) rest named =
    subst AreNamed
    (sym (append_assoc (returned_property pair) (flat_map returned_property pairs) rest))
    (one-named pair.1 pair.0 (bytes_eq pair.0 (codes "__proto__")) (is_ascii_identifier pair.0)
    (flat_map returned_property pairs ++ rest) (all-named pairs rest named))

one-fits : (more : List NodeSlot) (id : Ident) (x : Text) (computed plain : Bool) (rest : List Item) →
    AreFit (slot 0 Many AProperty ∷ more) rest →
    AreFit (slot 0 Many AProperty ∷ more) (one_property id x computed plain ++ rest)
one-fits more id x computed plain rest fits =
    subst (λ items. AreFit (slot 0 Many AProperty ∷ more) (h.Open 0 h.KeyValueProp ∷ items))
    (append_assoc (key_so x computed plain) (h.Ident 1 id.0 id.1 r.Reference ∷ []) (h.Close ∷ rest)
    ∙ sym (append_assoc (key_so x computed plain)
    (h.Ident 1 id.0 id.1 r.Reference ∷ h.Close ∷ []) rest))
    (a_node {inside = key_so x computed plain ++ h.Ident 1 id.0 id.1 r.Reference ∷ []} refl
    (key-fits (slot 1 One AnExpr ∷ []) x computed plain (h.Ident 1 id.0 id.1 r.Reference ∷ [])
    (a_name refl no_more)) fits)

all-fits : (more : List NodeSlot) (pairs : List Pair) (rest : List Item) →
    AreFit (slot 0 Many AProperty ∷ more) rest →
    AreFit (slot 0 Many AProperty ∷ more) (flat_map returned_property pairs ++ rest)
all-fits more [] rest fits = fits
all-fits more (pair ∷ pairs) rest fits =
    subst (AreFit (slot 0 Many AProperty ∷ more))
    (sym (append_assoc (returned_property pair) (flat_map returned_property pairs) rest))
    (one-fits more pair.1 pair.0 (bytes_eq pair.0 (codes "__proto__")) (is_ascii_identifier pair.0)
    (flat_map returned_property pairs ++ rest) (all-fits more pairs rest fits))

behind : (flat : List Item) →
    (((((((flat ++ h.Close ∷ h.Close ∷ []) ++ h.Close ∷ []) ++ h.Close ∷ []) ++ h.Close ∷ []) ++ [])
    ++ h.Close ∷ []) ++ h.Close ∷ []) ++ h.Close ∷ []
    ≡ flat ++ (h.Close ∷ h.Close ∷ h.Close ∷ h.Close ∷ h.Close ∷ h.Close ∷ h.Close ∷ h.Close ∷ [])
behind flat = simp append_assoc

pub object-topped : (object : Ident) (pairs : List Pair) →
    AllZip IsTopped (occurrences_from first_spot (l.namespace_object no_notes object pairs))
    ((object, true) ∷ map read_name pairs)
object-topped object pairs = (
  record {
    ident = refl;
    binds = refl;
    home = λ is. record { way = ByConst; is = refl; scopes = refl; takes_it = refl };
  },
  subst (λ items. AllZip IsTopped (occurrences_from (in_object 12 0) items) (map read_name pairs))
      (sym (behind (flat_map returned_property pairs)))
      (subst
      (λ names. AllZip IsTopped
      (occurrences_from (in_object 12 0)
      (flat_map returned_property pairs
      ++ (h.Close ∷ h.Close ∷ h.Close ∷ h.Close ∷ h.Close ∷ h.Close ∷ h.Close ∷ h.Close ∷ [])))
      names)
      (append-nil (map read_name pairs))
      (all-topped 12 0 pairs
      (h.Close ∷ h.Close ∷ h.Close ∷ h.Close ∷ h.Close ∷ h.Close ∷ h.Close ∷ h.Close ∷ []) []
      (λ place field. tt))),
)

behind-end : (flat : List Item) →
    ((((((((flat ++ h.Close ∷ h.Close ∷ []) ++ h.Close ∷ []) ++ h.Close ∷ []) ++ h.Close ∷ [])
    ++ [])
    ++ h.Close ∷ []) ++ h.Close ∷ []) ++ h.Close ∷ []) ++ h.Close ∷ []
    ≡ flat
    ++ (h.Close ∷ h.Close ∷ h.Close ∷ h.Close ∷ h.Close ∷ h.Close ∷ h.Close ∷ h.Close ∷ h.Close ∷ [])
behind-end flat = simp append_assoc

pub object-named : (object : Ident) (pairs : List Pair) →
    HasNames (l.namespace_object no_notes object pairs)
object-named object pairs = (
  refl,
  (
    refl,
    (
      refl,
      (
        refl,
        (
          refl,
          (
            refl,
            (
              refl,
              (
                refl,
                (
                  refl,
                  (
                    refl,
                    (
                      refl,
                      subst AreNamed (sym (behind-end (flat_map returned_property pairs)))
                          (all-named pairs
                          (h.Close ∷ h.Close ∷ h.Close ∷ h.Close ∷ h.Close ∷ h.Close ∷ h.Close ∷ h.Close ∷ h.Close ∷ [])
                          (refl, (refl, (refl, (refl, (refl, (refl, (refl, (refl, (refl, tt)))))))))),
                    ),
                  ),
                ),
              ),
            ),
          ),
        ),
      ),
    ),
  ),
)

returned-fits : (pairs : List Pair) → AreFit (slot 0 Many AStmt ∷ []) (returned_object pairs)
returned-fits pairs =
    subst (λ items. AreFit (slot 0 Many AStmt ∷ [])
    (h.Open 0 h.ReturnStmt ∷ h.Open 0 h.ObjectLit ∷ items))
    (append_assoc (flat_map returned_property pairs) (h.Close ∷ []) (h.Close ∷ []))
    (a_node {inside = h.Open 0 h.ObjectLit ∷ (flat_map returned_property pairs
    ++ h.Close ∷ [])} refl
    (a_node {inside = flat_map returned_property pairs} refl
    (subst (AreFit (slot 0 Many AProperty ∷ [])) (append-nil (flat_map returned_property pairs))
    (all-fits [] pairs [] (over refl no_more))) no_more)
    (over refl no_more))

called-fits : (pairs : List Pair) →
    AreFit (slot 1 Optional AnExpr ∷ [])
    (l.call_in 1 (e.node 0 h.FnExpr (l.function_in 1 [] (returned_object pairs))) [])
called-fits pairs =
    a_node {inside = e.node 0 h.FnExpr (l.function_in 1 [] (returned_object pairs)) ++ []} refl
    (subst (AreFit (slot 0 One ACallee ∷ slot 1 Many AnArgument ∷ []))
    (sym (append-nil (e.node 0 h.FnExpr (l.function_in 1 [] (returned_object pairs)))))
    (a_node {inside = l.function_in 1 [] (returned_object pairs)} refl
    (over refl
    (a_node {inside = e.node 1 h.BlockStmt (returned_object pairs)} refl
    (over refl (a_node {inside = returned_object pairs} refl
    (returned-fits pairs) no_more)) no_more))
    (over refl no_more)))
    no_more

pub object-fits : (object : Ident) (pairs : List Pair) →
    IsFit AnItem 0 (l.namespace_object no_notes object pairs)
object-fits object pairs =
    let value : List Item =
    l.call_in 1 (e.node 0 h.FnExpr (l.function_in 1 [] (returned_object pairs))) [] in
    node {inside = l.declarator (l.pattern_of 0 r.Binding object) value} refl
    (a_node {inside = l.pattern_of 0 r.Binding object ++ value} refl
    (a_node {inside = h.Ident 0 object.0 object.1 r.Binding ∷ []} refl (a_name refl no_more)
    (called-fits pairs))
    (over refl no_more))

-- The item.
module _ (p : Program) (hooks : Hooks) (list : List ℕ) (context : BundleContexts)
    (answers : ℕ → Option HookAnswer) (d : ℕ) (pairs : List NamedTarget)
    (due : IsDue p AsModule (HoldsNamespace d))
    (labels : (x : Text) (t : Target) → Linked p d x t → IsMeant p (Of t) → IsTopLabel p (Of t))
    (are : AreLinked p d pairs) where
  abbrev named_pairs : List Pair
  named_pairs = linked_idents p list context pairs

  abbrev object : Ident
  object = ident_of_label p list context (Of (Namespace d))

  meant-there : IsDue p AsModule (HoldsNamespace d) → IsMeant p (Of (Namespace d))
  meant-there (namespace_due meant) = meant

  linked-meant : (x : Text) (t : Target) → Linked p d x t → IsMeant p (Of t)
  linked-meant x t linked = by_namespace (meant-there due) linked

  marked : HasMarks (l.namespace_object no_notes object named_pairs) (
    Known (Of (Namespace d)) ∷ map means_of
        (rows_of p list context pairs),
    i.namespace_object d pairs,
  )
  marked =
      subst
      (λ its. HasMarks (l.namespace_object no_notes object its) (
        Known (Of (Namespace d)) ∷ map means_of
            (rows_of p list context pairs),
        i.namespace_object d pairs,
      ))
      (written-rows p list context pairs)
      (subst
      (λ its. HasMarks (l.namespace_object no_notes object (map written_of
      (rows_of p list context pairs))) (
        Known (Of (Namespace d)) ∷ map means_of
            (rows_of p list context pairs),
        i.namespace_object d its,
      ))
      (target-rows p list context pairs)
      (namespace_marked no_notes object d (rows_of p list context pairs)))

  declares : (label : Label) → DeclaresLabel p (HoldsNamespace d) label →
      list_any
      (binds_it (ident_of_label p list context label).0 (ident_of_label p list context label).1)
      ((object, true) ∷ map read_name named_pairs)
      ≡ true
  declares label (adds adds_namespace) = first-bound object (map read_name named_pairs)

  pub namespace-alone : IsItemAlone p hooks list context answers (HoldsNamespace d)
      (l.namespace_object no_notes object named_pairs)
  namespace-alone =
      topped-alone p hooks list context answers (HoldsNamespace d)
      (λ c e. absurd cc)
      (l.namespace_object no_notes object named_pairs) (
        Known (Of (Namespace d)) ∷ map means_of
            (rows_of p list context pairs),
        i.namespace_object d pairs,
      )
      ((object, true) ∷ map read_name named_pairs) (object-fits object named_pairs) marked
      (holds_namespace pairs are) (namespace_lone no_notes object named_pairs)
      (object-named object named_pairs)
      (object-topped object named_pairs) (
        record {
          label = Of (Namespace d);
          is = refl;
          there = record { cause = HoldsNamespace d; due = due; declares = adds adds_namespace };
          ident = refl;
        },
        rows-tell p list context pairs
            (λ x t has. let linked : Linked p d x t = ((are.all x t).0 has) in labels x t linked
            (linked-meant x t linked)),
      ) tt declares
      (λ x c is. (
        Of (Namespace d),
        adds adds_namespace,
        bound-first object (map read_name named_pairs) x c (none-read x c named_pairs) is,
      ))
