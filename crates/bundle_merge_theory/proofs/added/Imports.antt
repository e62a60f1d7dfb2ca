-- The items that import an external, and the stars of externals.
use Rattle.std.proofs.Common.{◌≡◌, ℕ, Bool, true, false, List, [], ◌∷◌, ◌++◌, Option, map, append_assoc, append-nil, refl, ap, sym, subst}
use Rattle.std.specs.Prelude.{flat_map, if◌then◌else◌}
use Rattle.std.specs.List.{AllZip, list_any}
use Rattle.std.proofs.lemmas.Bool.{false≢true}
use Rattle.bundle_syntax.specs.declared.piece.Role.TheVariants as r
use Rattle.bundle_syntax.specs.Item as h
use Rattle.bundle_syntax.specs.Item.{Item, Head}
use Rattle.bundle_rules.specs.Places.{Spot, occurrences_from}
use Rattle.bundle_rules.specs.Declarations.{ByImport}
use Rattle.bundle_rules.specs.Nodes.{Text}
use Rattle.bundle_rules.specs.Idents.{Ident}
use Rattle.bundle_rules.specs.Rebuilds.{Listed}
use Rattle.bundle_rules.specs.Statements.{no_notes}
use Rattle.bundle_rules.specs.Injected.{is_ascii_identifier}
use Rattle.bundle_rules.specs.Injected as i
use Rattle.bundle_rules.specs.Entries.{Named, Whole}
use Rattle.bundle_rules.specs.Program.{Program}
use Rattle.bundle_rules.specs.Linking.{External}
use Rattle.bundle_rules.specs.Meaning.{Label, Of, Known}
use Rattle.bundle_rules.specs.Bundle.{Cause, ImportsNames, ImportsWhole, ImportsNothing, Stars, AsModule, Hooks, MeansName, IsDue, AreNames}
use Rattle.bundle_scope_names.specs.fit.Sorts.{AnItem, AnImport, AnOuter, ASource, One, Optional, Many, NodeSlot, slot}
use Rattle.bundle_scope_names.specs.fit.Fits.{AreFit, no_more, over, a_name, a_node, IsFit, node}
use Rattle.bundle_tree_places.specs.Edits as e
use Rattle.bundle_merge_injected.specs.Listed as l
use Rattle.bundle_merge_theory.proofs.joined.Declarations.{AreNamed}
use Rattle.bundle_merge_theory.proofs.walked.Loading.{imported_from, import_names_marked, import_whole_marked, import_bare_marked, export_star_marked, Import as Pair, import_names_lone, import_whole_lone, import_bare_lone, export_star_lone}
use Rattle.bundle_merge_theory.specs.composed.Noted.{MarksStandFor, imports_names, imports_whole, imports_nothing, stars, first_spot}
use Rattle.bundle_merge_theory.specs.made.Given.{HookAnswer, BundleContexts, ident_of_label}
use Rattle.bundle_merge_theory.specs.made.Made.{named_idents}
use Rattle.bundle_merge_theory.specs.made.Alone.{IsTopLabel, DeclaresLabel, adds, imports_name, imports_whole as adds_whole, IsItemAlone}
use Rattle.bundle_merge_theory.proofs.added.Rows.{IsTopped, binds_it, topped-alone, bound_name, names-again, name-bound, bound-name, names-tell, first-bound, bound-first}

-- in a node at the top of an item
abbrev pub at_top : Head → ℕ → ℕ → ℕ → Spot
at_top head begins place field = record {
  place = place;
  path =
      record { head = head; begins = begins; field = field }
      ∷ record { head = h.Module; begins = 0; field = 0 }
      ∷ [];
}

-- Names of an import.

abbrev one_import : Ident → Text → Bool → List Item
one_import id x b =
    e.node 0 h.ImportNamedSpecifier
    (h.Ident 0 id.0 id.1 r.Binding ∷ (if b then h.Ident 1 x 0 r.Word ∷ [] else l.string_in 1 x))

one-topped : (begins place field : ℕ) (id : Ident) (x : Text) (b : Bool) (rest : List Item)
    (names : List Listed) →
    ((place field : ℕ) → AllZip IsTopped
    (occurrences_from (at_top (h.ImportDecl no_notes) begins place field) rest) names) →
    AllZip IsTopped
    (occurrences_from (at_top (h.ImportDecl no_notes) begins place field) (one_import id x b
    ++ rest))
    ((id, true) ∷ names)
one-topped begins place field id x true rest names more = (
  record {
    ident = refl;
    binds = refl;
    home = λ is. record { way = ByImport; is = refl; scopes = refl; takes_it = refl };
  },
  more _ _,
)
one-topped begins place field id x false rest names more = (
  record {
    ident = refl;
    binds = refl;
    home = λ is. record { way = ByImport; is = refl; scopes = refl; takes_it = refl };
  },
  more _ _,
)

all-topped : (begins place field : ℕ) (pairs : List Pair) (rest : List Item)
    (names : List Listed) →
    ((place field : ℕ) → AllZip IsTopped
    (occurrences_from (at_top (h.ImportDecl no_notes) begins place field) rest) names) →
    AllZip IsTopped
    (occurrences_from (at_top (h.ImportDecl no_notes) begins place field)
    (flat_map l.import_specifier pairs ++ rest))
    (map bound_name pairs ++ names)
all-topped begins place field [] rest names more = more place field
all-topped begins place field (pair ∷ pairs) rest names more =
    subst
    (λ items. AllZip IsTopped
    (occurrences_from (at_top (h.ImportDecl no_notes) begins place field) items)
    (bound_name pair ∷ (map bound_name pairs ++ names)))
    (sym (append_assoc (l.import_specifier pair) (flat_map l.import_specifier pairs) rest))
    (one-topped begins place field pair.1 pair.0 (is_ascii_identifier pair.0)
    (flat_map l.import_specifier pairs ++ rest) (map bound_name pairs ++ names)
    (λ its_place its_field. all-topped begins its_place its_field pairs rest names more))

one-named : (id : Ident) (x : Text) (b : Bool) (rest : List Item) → AreNamed rest →
    AreNamed (one_import id x b ++ rest)
one-named id x true rest named = (refl, (refl, (refl, (refl, named))))
one-named id x false rest named = (refl, (refl, (refl, (refl, (refl, named)))))

all-named : (pairs : List Pair) (rest : List Item) → AreNamed rest →
    AreNamed (flat_map l.import_specifier pairs ++ rest)
all-named [] rest named = named
all-named (pair ∷ pairs) rest named =
    subst AreNamed
    (sym (append_assoc (l.import_specifier pair) (flat_map l.import_specifier pairs) rest))
    (one-named pair.1 pair.0 (is_ascii_identifier pair.0) (flat_map l.import_specifier pairs
    ++ rest)
    (all-named pairs rest named))

-- a string in a field that takes one
pub string-fits : (x : Text) → AreFit (slot 1 One ASource ∷ []) (l.string_in 1 x)
string-fits x = a_node {inside = []} refl no_more no_more

pub outer-fits : (x : Text) (b : Bool) →
    AreFit (slot 1 Optional AnOuter ∷ [])
    (if b then h.Ident 1 x 0 r.Word ∷ [] else l.string_in 1 x)
outer-fits x true = a_name refl no_more
outer-fits x false = a_node {inside = []} refl no_more no_more

one-fits : (more : List NodeSlot) (id : Ident) (x : Text) (b : Bool) (rest : List Item) →
    AreFit (slot 0 Many AnImport ∷ more) rest →
    AreFit (slot 0 Many AnImport ∷ more) (one_import id x b ++ rest)
one-fits more id x true rest fits =
    a_node {inside = h.Ident 0 id.0 id.1 r.Binding ∷ h.Ident 1 x 0 r.Word ∷ []} refl
    (a_name refl (outer-fits x true)) fits
one-fits more id x false rest fits =
    a_node {inside = h.Ident 0 id.0 id.1 r.Binding ∷ l.string_in 1 x} refl
    (a_name refl (outer-fits x false)) fits

all-fits : (more : List NodeSlot) (pairs : List Pair) (rest : List Item) →
    AreFit (slot 0 Many AnImport ∷ more) rest →
    AreFit (slot 0 Many AnImport ∷ more) (flat_map l.import_specifier pairs ++ rest)
all-fits more [] rest fits = fits
all-fits more (pair ∷ pairs) rest fits =
    subst (AreFit (slot 0 Many AnImport ∷ more))
    (sym (append_assoc (l.import_specifier pair) (flat_map l.import_specifier pairs) rest))
    (one-fits more pair.1 pair.0 (is_ascii_identifier pair.0)
    (flat_map l.import_specifier pairs ++ rest) (all-fits more pairs rest fits))

-- The items.
module _ (p : Program) (hooks : Hooks) (list : List ℕ) (context : BundleContexts)
    (answers : ℕ → Option HookAnswer) where
  module _ (s : Text) (names : List Text) (due : IsDue p AsModule (ImportsNames s))
      (are : AreNames (MeansName p s) names) where
    abbrev pairs : List Pair
    pairs = named_idents p list context (λ x. External s (Named x)) names

    top-of : (x : Text) → MeansName p s x → IsTopLabel p (Of (External s (Named x)))
    top-of x means = record {
      cause = ImportsNames s;
      due = due;
      declares = adds
          (imports_name means);
    }

    pub topped : AllZip IsTopped (occurrences_from first_spot (l.import_names s pairs))
        (map bound_name pairs)
    topped =
        subst
        (λ items. AllZip IsTopped (occurrences_from (at_top (h.ImportDecl no_notes) 1 2 0) items)
        (map bound_name pairs))
        (sym (append_assoc (flat_map l.import_specifier pairs) (l.string_in 1 s) (h.Close ∷ [])))
        (subst
        (λ its. AllZip IsTopped
        (occurrences_from (at_top (h.ImportDecl no_notes) 1 2 0)
        (flat_map l.import_specifier pairs ++ (l.string_in 1 s ++ h.Close ∷ [])))
        its)
        (append-nil (map bound_name pairs))
        (all-topped 1 2 0 pairs (l.string_in 1 s ++ h.Close ∷ []) [] (λ place field. tt)))

    pub named : AreNamed (l.import_names s pairs ++ h.Close ∷ [])
    named = (
      refl,
      subst AreNamed
          (ap (λ items. items ++ h.Close ∷ [])
          (sym (append_assoc (flat_map l.import_specifier pairs) (l.string_in 1 s) (h.Close ∷ [])))
          )
          (subst AreNamed
          (sym (append_assoc (flat_map l.import_specifier pairs) (l.string_in 1 s ++ h.Close ∷ [])
          (h.Close ∷ [])))
          (all-named pairs ((l.string_in 1 s ++ h.Close ∷ []) ++ h.Close ∷ []) (
            refl,
            (
              refl,
              (
                refl,
                (refl, tt),
              ),
            ),
          ))),
    )

    fits : IsFit AnItem 0 (l.import_names s pairs)
    fits =
        node refl
        (all-fits (slot 1 One ASource ∷ []) pairs (l.string_in 1 s)
        (over refl (string-fits s)))

    declares : (label : Label) → DeclaresLabel p (ImportsNames s) label →
        list_any
        (binds_it (ident_of_label p list context label).0 (ident_of_label p list context label).1)
        (map bound_name pairs)
        ≡ true
    declares label (adds (imports_name {x = x} means)) =
        name-bound p list context (λ x. External s (Named x)) names x ((are.all x).1 means)

    declared : (x : Text) (c : ℕ) → list_any (binds_it x c) (map bound_name pairs) ≡ true →
        (label : Label) × DeclaresLabel p (ImportsNames s) label
        × ((x, c) ≡ ident_of_label p list context label)
    declared x c is =
        let it = bound-name p list context (λ x. External s (Named x)) names x c is in
        (Of (External s (Named it.0)), adds (imports_name ((are.all it.0).0 it.1)), it.2)

    pub imports-names-alone : IsItemAlone p hooks list context answers (ImportsNames s)
        (l.import_names s pairs)
    imports-names-alone =
        topped-alone p hooks list context answers (ImportsNames s)
        (λ c e. absurd cc) (l.import_names s pairs)
        (map (imported_from s) pairs, i.import_names s (map (λ it. it.0) pairs))
        (map bound_name pairs) fits (import_names_marked s pairs)
        (subst (λ its. MarksStandFor p hooks AsModule (i.import_names s its) (ImportsNames s))
        (sym (names-again p list context (λ x. External s (Named x)) names))
        (imports_names names are))
        (import_names_lone s pairs) named topped
        (names-tell p list context (λ x. External s (Named x)) names
        (λ x has. top-of x ((are.all x).0 has)))
        tt declares declared

  of-whole : (s : Text) (label : Label) → DeclaresLabel p (ImportsWhole s) label →
      list_any
      (binds_it (ident_of_label p list context label).0 (ident_of_label p list context label).1)
      ((ident_of_label p list context (Of (External s Whole)), true) ∷ [])
      ≡ true
  of-whole s label (adds adds_whole) =
      first-bound (ident_of_label p list context (Of (External s Whole))) []

  nothing-declared : (s : Text) (label : Label) → DeclaresLabel p (ImportsNothing s) label →
      list_any
      (binds_it (ident_of_label p list context label).0 (ident_of_label p list context label).1) []
      ≡ true
  nothing-declared s label (adds it) = elim it [ ]

  star-declares : (s : Text) (label : Label) → DeclaresLabel p (Stars s) label →
      list_any
      (binds_it (ident_of_label p list context label).0 (ident_of_label p list context label).1) []
      ≡ true
  star-declares s label (adds it) = elim it [ ]

  -- the whole of an external
  pub imports-whole-alone : (s : Text) → IsDue p AsModule (ImportsWhole s) →
      IsItemAlone p hooks list context answers (ImportsWhole s)
      (l.import_whole s (ident_of_label p list context (Of (External s Whole))))
  imports-whole-alone s due =
      let label : Label = Of (External s Whole) in
      let id : Ident = ident_of_label p list context label in
      topped-alone p hooks list context answers (ImportsWhole s)
      (λ c e. absurd cc) (l.import_whole s id)
      (Known label ∷ [], i.import_whole s) ((id, true) ∷ [])
      (node refl
      (a_node {inside = h.Ident 0 id.0 id.1 r.Binding ∷ []} refl (a_name refl no_more)
      (over refl (string-fits s))))
      (import_whole_marked s id) imports_whole (import_whole_lone s id)
      (refl, (refl, (refl, (refl, (refl, (refl, (refl, (refl, tt)))))))) (
        record {
          ident = refl;
          binds = refl;
          home = λ is. record { way = ByImport; is = refl; scopes = refl; takes_it = refl };
        },
        tt,
      ) (
        record {
          label = label;
          is = refl;
          there = record { cause = ImportsWhole s; due = due; declares = adds adds_whole };
          ident = refl;
        },
        tt,
      ) tt (of-whole s) (λ x c is. (label, adds adds_whole, bound-first id [] x c refl is))

  none-bound : (x : Text) (c : ℕ) (cause : Cause) → list_any (binds_it x c) [] ≡ true →
      (l : Label) × DeclaresLabel p cause l × ((x, c) ≡ ident_of_label p list context l)
  none-bound x c cause is = absurd (false≢true is)

  -- nothing of an external
  pub imports-nothing-alone : (s : Text) →
      IsItemAlone p hooks list context answers (ImportsNothing s) (l.import_bare s)
  imports-nothing-alone s =
      topped-alone p hooks list context answers (ImportsNothing s)
      (λ c e. absurd cc) (l.import_bare s)
      ([], i.import_bare s) [] (node refl (over refl (string-fits s))) (import_bare_marked s)
      imports_nothing (import_bare_lone s) (refl, (refl, (refl, (refl, (refl, tt))))) tt tt tt
      (nothing-declared s) (λ x c is. none-bound x c (ImportsNothing s) is)

  -- a star of an external
  pub stars-alone : (s : Text) → IsItemAlone p hooks list context answers (Stars s) (l.export_star s)
  stars-alone s =
      topped-alone p hooks list context answers (Stars s)
      (λ c e. absurd cc) (l.export_star s) ([], i.export_star s) []
      (node refl (a_node {inside = []} refl no_more no_more)) (export_star_marked s) stars
      (export_star_lone s) (refl, (refl, (refl, (refl, (refl, tt))))) tt tt tt
      (star-declares s) (λ x c is. none-bound x c (Stars s) is)
