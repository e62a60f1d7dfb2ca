-- The statement by which a module loads a CommonJS module: where its names stand, and that it is
-- fit.
-- The statement by which a module loads a CommonJS module, by itself.
use Rattle.std.proofs.Common.{◌≡◌, ℕ, Bool, true, false, List, [], ◌∷◌, ◌++◌, Option, None, Some, map, append_assoc, append-nil, refl, sym, subst, ◌||◌, ap, ◌∙◌}
use Rattle.std.specs.Prelude.{flat_map, bytes_eq, codes, if◌then◌else◌, Contains}
use Rattle.std.specs.List.{AllZip, list_any}
use Rattle.std.proofs.lemmas.Bool.{false≢true, or_right}
use Rattle.bundle_syntax.specs.declared.kind.VarDeclKind.TheVariants.{Var}
use Rattle.bundle_syntax.specs.Item as h
use Rattle.bundle_syntax.specs.Item.{Item}
use Rattle.bundle_order_graph.specs.Walks.{Reaches, itself, along}
use Rattle.bundle_syntax.specs.declared.piece.Role.TheVariants as r
use Rattle.bundle_rules.specs.Places.{Spot, occurrences_from}
use Rattle.bundle_rules.specs.Declarations.{ByVar}
use Rattle.bundle_rules.specs.Nodes.{Text}
use Rattle.bundle_rules.specs.Idents.{Ident}
use Rattle.bundle_rules.specs.Rebuilds.{Listed, plain_key}
use Rattle.bundle_rules.specs.Statements.{no_notes}
use Rattle.bundle_rules.specs.Injected as i
use Rattle.bundle_rules.specs.Injected.{is_ascii_identifier}
use Rattle.bundle_rules.specs.Entries.{Taken, Named, Whole}
use Rattle.bundle_rules.specs.Program.{Program, Requests}
use Rattle.bundle_rules.specs.Linking.{CommonJs}
use Rattle.bundle_rules.specs.Meaning.{Label, Of, Load, IsMeant, Known}
use Rattle.bundle_rules.specs.Bundle.{Defines, Loads, AsModule, Hooks, IsDue, defines, loads as loads_due, AreNames}
use Rattle.bundle_tree_places.specs.Edits
use Rattle.bundle_link_tables.proofs.MarkLemmas.{or_false as or-none}
use Rattle.bundle_merge_injected.specs.Listed as l
use Rattle.bundle_scope_names.specs.fit.Sorts.{AnItem, AnExpr, AKey, APattern, APatternProperty, ADeclarator, One, Optional, Many, NodeSlot, slot}
use Rattle.bundle_scope_names.specs.fit.Fits.{AreFit, no_more, over, a_name, a_node, IsFit, node}
use Rattle.bundle_merge_theory.proofs.joined.Declarations.{AreNamed, IsNamed as HasNames}
use Rattle.bundle_merge_theory.proofs.walked.Loading.{Import as Pair, is_there, taken_from_c, load_means, load_marked, load_lone}
use Rattle.bundle_merge_theory.proofs.joined.Paths.{any-append}
use Rattle.bundle_merge_theory.specs.walked.Renaming.{HasMarks}
use Rattle.bundle_merge_theory.specs.composed.Noted.{first_spot, loads}
use Rattle.bundle_merge_theory.proofs.added.Rows.{IsTopped, binds_it, bound_name, names-again, name-bound, bound-name, names-tell, IsOfTop, binds-same, binds-is, topped-alone}
use Rattle.bundle_merge_theory.proofs.planned.RequestLemmas.{declared_leads}
use Rattle.bundle_merge_theory.specs.made.Given.{HookAnswer, BundleContexts, ident_of_label}
use Rattle.bundle_merge_theory.specs.made.Made.{named_idents}
use Rattle.bundle_merge_theory.specs.made.Alone.{IsTopLabel, DeclaresLabel, adds, defines as adds_load, loads as adds_taken, IsItemAlone}
use Rattle.bundle_merge_theory.proofs.laid.Ready.{zip-join as zip-append}

-- ---- load forms

-- A key of an object or of a pattern of one.

abbrev pub key_so : Text → Bool → Bool → List Item
key_so x computed plain =
    if computed
    then h.Open 0 h.ComputedPropName ∷ h.Open 0 (h.Str x None) ∷ h.Close ∷ h.Close ∷ []
    else (if plain then plain_key x else h.Open 0 (h.Str x None) ∷ h.Close ∷ [])

pub key-fits : (more : List NodeSlot) (x : Text) (computed plain : Bool) (rest : List Item) →
    AreFit more rest → AreFit (slot 0 One AKey ∷ more) (key_so x computed plain ++ rest)
key-fits more x true plain rest fits =
    a_node {inside = h.Open 0 (h.Str x None) ∷ h.Close ∷ []} refl
    (a_node {inside = []} refl no_more no_more) fits
key-fits more x false true rest fits = a_node {inside = []} refl no_more fits
key-fits more x false false rest fits = a_node {inside = []} refl no_more fits

-- Properties of a pattern.

-- in the pattern of a declarator
abbrev pub in_pattern : (begins declarator place field : ℕ) → Spot
in_pattern begins declarator place field = record {
  place = place;
  path =
      record { head = h.ObjectPat; begins = begins; field = field }
      ∷ record { head = h.VarDeclarator; begins = declarator; field = 0 }
      ∷ record { head = h.VarDecl Var no_notes; begins = 1; field = 1 }
      ∷ record { head = h.Module; begins = 0; field = 0 }
      ∷ [];
}

abbrev one_property : Ident → Text → Bool → Bool → List Item
one_property id x computed plain =
    Edits.node 0 h.KeyValuePatProp (key_so x computed plain ++ l.pattern_of 1 r.Binding id)

one-topped : (begins declarator place field : ℕ) (id : Ident) (x : Text) (computed plain : Bool)
    (rest : List Item) (names : List Listed) →
    ((place field : ℕ) →
    AllZip IsTopped (occurrences_from (in_pattern begins declarator place field) rest) names) →
    AllZip IsTopped
    (occurrences_from (in_pattern begins declarator place field)
    (one_property id x computed plain ++ rest))
    ((id, true) ∷ names)
one-topped begins declarator place field id x true plain rest names more = (
  record {
    ident = refl;
    binds = refl;
    home = λ is. record { way = ByVar; is = refl; scopes = refl; takes_it = refl };
  },
  more _ _,
)
one-topped begins declarator place field id x false true rest names more = (
  record {
    ident = refl;
    binds = refl;
    home = λ is. record { way = ByVar; is = refl; scopes = refl; takes_it = refl };
  },
  more _ _,
)
one-topped begins declarator place field id x false false rest names more = (
  record {
    ident = refl;
    binds = refl;
    home = λ is. record { way = ByVar; is = refl; scopes = refl; takes_it = refl };
  },
  more _ _,
)

all-topped : (begins declarator place field : ℕ) (pairs : List Pair) (rest : List Item)
    (names : List Listed) →
    ((place field : ℕ) →
    AllZip IsTopped (occurrences_from (in_pattern begins declarator place field) rest) names) →
    AllZip IsTopped
    (occurrences_from (in_pattern begins declarator place field)
    (flat_map l.load_property pairs ++ rest))
    (map bound_name pairs ++ names)
all-topped begins declarator place field [] rest names more = more place field
all-topped begins declarator place field (pair ∷ pairs) rest names more =
    subst
    (λ items. AllZip IsTopped (occurrences_from (in_pattern begins declarator place field) items)
    (bound_name pair ∷ (map bound_name pairs ++ names)))
    (sym (append_assoc (l.load_property pair) (flat_map l.load_property pairs) rest))
    (one-topped begins declarator place field pair.1 pair.0 (bytes_eq pair.0 (codes "__proto__"))
    (is_ascii_identifier pair.0) (flat_map l.load_property pairs ++ rest)
    (map bound_name pairs ++ names)
    (λ its_place its_field.
    all-topped begins declarator its_place its_field pairs rest names more))

one-named : (id : Ident) (x : Text) (computed plain : Bool) (rest : List Item) → AreNamed rest →
    AreNamed (one_property id x computed plain ++ rest)
one-named id x true plain rest named =
    (refl, (refl, (refl, (refl, (refl, (refl, (refl, (refl, (refl, named)))))))))
one-named id x false true rest named =
    (refl, (refl, (refl, (refl, (refl, (refl, (refl, named)))))))
one-named id x false false rest named =
    (refl, (refl, (refl, (refl, (refl, (refl, (refl, named)))))))

all-named : (pairs : List Pair) (rest : List Item) → AreNamed rest →
    AreNamed (flat_map l.load_property pairs ++ rest)
all-named [] rest named = named
all-named (pair ∷ pairs) rest named =
    subst AreNamed
    (sym (append_assoc (l.load_property pair) (flat_map l.load_property pairs) rest))
    (one-named pair.1 pair.0 (bytes_eq pair.0 (codes "__proto__")) (is_ascii_identifier pair.0)
    (flat_map l.load_property pairs ++ rest) (all-named pairs rest named))

one-fits : (more : List NodeSlot) (id : Ident) (x : Text) (computed plain : Bool) (rest : List Item) →
    AreFit (slot 0 Many (APatternProperty r.Binding) ∷ more) rest →
    AreFit (slot 0 Many (APatternProperty r.Binding) ∷ more) (one_property id x computed plain
    ++ rest)
one-fits more id x computed plain rest fits =
    subst (λ items. AreFit (slot 0 Many (APatternProperty r.Binding) ∷ more)
    (h.Open 0 h.KeyValuePatProp ∷ items))
    (sym (append_assoc (key_so x computed plain ++ l.pattern_of 1 r.Binding id)
    (h.Close ∷ []) rest))
    (a_node {inside = key_so x computed plain ++ l.pattern_of 1 r.Binding id} refl
    (key-fits (slot 1 One (APattern r.Binding) ∷ []) x computed plain (l.pattern_of 1 r.Binding id)
    (a_node {inside = h.Ident 0 id.0 id.1 r.Binding ∷ []} refl (a_name refl no_more) no_more)) fits)

all-fits : (more : List NodeSlot) (pairs : List Pair) (rest : List Item) →
    AreFit (slot 0 Many (APatternProperty r.Binding) ∷ more) rest →
    AreFit (slot 0 Many (APatternProperty r.Binding) ∷ more)
    (flat_map l.load_property pairs ++ rest)
all-fits more [] rest fits = fits
all-fits more (pair ∷ pairs) rest fits =
    subst (AreFit (slot 0 Many (APatternProperty r.Binding) ∷ more))
    (sym (append_assoc (l.load_property pair) (flat_map l.load_property pairs) rest))
    (one-fits more pair.1 pair.0 (bytes_eq pair.0 (codes "__proto__")) (is_ascii_identifier pair.0)
    (flat_map l.load_property pairs ++ rest) (all-fits more pairs rest fits))

-- The statement.

-- its names
abbrev pub load_names : Ident → Option Ident → List Pair → List Listed
load_names load None [] = (load, false) ∷ []
load_names load None (pair ∷ pairs) = map bound_name (pair ∷ pairs) ++ (load, false) ∷ []
load_names load (Some w) [] = (w, true) ∷ (load, false) ∷ []
load_names load (Some w) (pair ∷ pairs) =
    (w, true) ∷ (load, false) ∷ (map bound_name (pair ∷ pairs) ++ (w, false) ∷ [])

-- what stands behind the properties, in the last declarator
behind : (flat value : List Item) →
    (((flat ++ h.Close ∷ []) ++ value) ++ h.Close ∷ []) ++ h.Close ∷ []
    ≡ flat ++ (h.Close ∷ (value ++ h.Close ∷ h.Close ∷ []))
behind flat value = simp append_assoc

behind-end : (flat value : List Item) →
    ((((flat ++ h.Close ∷ []) ++ value) ++ h.Close ∷ []) ++ h.Close ∷ []) ++ h.Close ∷ []
    ≡ flat ++ (h.Close ∷ (value ++ h.Close ∷ h.Close ∷ h.Close ∷ []))
behind-end flat value = simp append_assoc

pub load-topped : (load : Ident) (whole : Option Ident) (pairs : List Pair) →
    AllZip IsTopped (occurrences_from first_spot (l.load_statement load whole pairs))
    (load_names load whole pairs)
load-topped load None [] = (
  record { ident = refl; binds = refl; home = λ is. absurd (false≢true is) },
  tt,
)
load-topped load None (pair ∷ pairs) =
    subst
    (λ items. AllZip IsTopped (occurrences_from (in_pattern 3 2 4 0) items)
    (load_names load None (pair ∷ pairs)))
    (sym (behind (flat_map l.load_property (pair ∷ pairs)) (l.load_call 1 load)))
    (all-topped 3 2 4 0 (pair ∷ pairs)
    (h.Close ∷ (l.load_call 1 load ++ h.Close ∷ h.Close ∷ [])) ((load, false) ∷ [])
    (λ place field. (
      record { ident = refl; binds = refl; home = λ is. absurd (false≢true is) },
      tt,
    )))
load-topped load (Some w) [] = (
  record {
    ident = refl;
    binds = refl;
    home = λ is. record { way = ByVar; is = refl; scopes = refl; takes_it = refl };
  },
  (
    record { ident = refl; binds = refl; home = λ is. absurd (false≢true is) },
    tt,
  ),
)
load-topped load (Some w) (pair ∷ pairs) = (
  record {
    ident = refl;
    binds = refl;
    home = λ is. record { way = ByVar; is = refl; scopes = refl; takes_it = refl };
  },
  (
    record { ident = refl; binds = refl; home = λ is. absurd (false≢true is) },
    subst
        (λ items. AllZip IsTopped (occurrences_from (in_pattern 11 10 12 0) items)
        (map bound_name (pair ∷ pairs) ++ (w, false) ∷ []))
        (sym (behind (flat_map l.load_property (pair ∷ pairs)) (l.named 1 r.Reference w)))
        (all-topped 11 10 12 0 (pair ∷ pairs)
        (h.Close ∷ (l.named 1 r.Reference w ++ h.Close ∷ h.Close ∷ [])) ((w, false) ∷ [])
        (λ place field. (
          record { ident = refl; binds = refl; home = λ is. absurd (false≢true is) },
          tt,
        ))),
  ),
)

pub load-named : (load : Ident) (whole : Option Ident) (pairs : List Pair) →
    HasNames (l.load_statement load whole pairs)
load-named load None [] = (refl, (refl, (refl, (refl, (refl, (refl, tt))))))
load-named load None (pair ∷ pairs) = (
  refl,
  (
    refl,
    (
      refl,
      subst AreNamed (sym (behind-end (flat_map l.load_property (pair ∷ pairs)) (l.load_call 1 load)))
          (all-named (pair ∷ pairs)
          (h.Close ∷ (l.load_call 1 load ++ h.Close ∷ h.Close ∷ h.Close ∷ []))
          (refl, (refl, (refl, (refl, (refl, (refl, (refl, tt)))))))),
    ),
  ),
)
load-named load (Some w) [] =
    (refl, (refl, (refl, (refl, (refl, (refl, (refl, (refl, (refl, (refl, (refl, tt)))))))))))
load-named load (Some w) (pair ∷ pairs) = (
  refl,
  (
    refl,
    (
      refl,
      (
        refl,
        (
          refl,
          (
            refl,
            (
              refl,
              (
                refl,
                (
                  refl,
                  (
                    refl,
                    (
                      refl,
                      subst AreNamed (sym (behind-end (flat_map l.load_property (pair ∷ pairs))
                          (l.named 1 r.Reference w)))
                          (all-named (pair ∷ pairs)
                          (h.Close ∷ (l.named 1 r.Reference w ++ h.Close ∷ h.Close ∷ h.Close ∷ []))
                          (refl, (refl, (refl, (refl, (refl, tt)))))),
                    ),
                  ),
                ),
              ),
            ),
          ),
        ),
      ),
    ),
  ),
)

-- a declarator whose pattern has these properties
pattern-fits : (pairs : List Pair) (value : List Item) →
    AreFit (slot 1 Optional AnExpr ∷ []) value →
    AreFit (slot 0 One (APattern r.Binding) ∷ slot 1 Optional AnExpr ∷ [])
    (l.load_pattern pairs ++ value)
pattern-fits pairs value fits =
    subst (λ items. AreFit (slot 0 One (APattern r.Binding) ∷ slot 1 Optional AnExpr ∷ [])
    (h.Open 0 h.ObjectPat ∷ items))
    (sym (append_assoc (flat_map l.load_property pairs) (h.Close ∷ []) value))
    (a_node {inside = flat_map l.load_property pairs} refl
    (subst (AreFit (slot 0 Many (APatternProperty r.Binding) ∷ []))
    (append-nil (flat_map l.load_property pairs))
    (all-fits [] pairs [] (over refl no_more))) fits)

call-fits : (load : Ident) → AreFit (slot 1 Optional AnExpr ∷ []) (l.load_call 1 load)
call-fits load =
    a_node {inside = h.Ident 0 load.0 load.1 r.Reference ∷ []} refl
    (a_name refl (over refl no_more)) no_more

whole-fits : (load w : Ident) (rest : List Item) → AreFit (slot 1 Many ADeclarator ∷ []) rest →
    AreFit (slot 1 Many ADeclarator ∷ [])
    (l.declarator (l.pattern_of 0 r.Binding w) (l.load_call 1 load) ++ rest)
whole-fits load w rest fits =
    a_node {inside = l.pattern_of 0 r.Binding w ++ l.load_call 1 load} refl
    (a_node {inside = h.Ident 0 w.0 w.1 r.Binding ∷ []} refl (a_name refl no_more) (call-fits load))
    fits

pub load-fits : (load : Ident) (whole : Option Ident) (pairs : List Pair) →
    IsFit AnItem 0 (l.load_statement load whole pairs)
load-fits load None [] =
    node {inside = l.load_call 0 load} refl
    (a_node {inside = h.Ident 0 load.0 load.1 r.Reference ∷ []} refl
    (a_name refl (over refl no_more)) no_more)
load-fits load None (pair ∷ pairs) =
    node {inside = l.declarator (l.load_pattern (pair ∷ pairs)) (l.load_call 1 load)} refl
    (a_node {inside = l.load_pattern (pair ∷ pairs) ++ l.load_call 1 load} refl
    (pattern-fits (pair ∷ pairs) (l.load_call 1 load) (call-fits load)) (over refl no_more))
load-fits load (Some w) [] =
    node {inside = l.declarator (l.pattern_of 0 r.Binding w) (l.load_call 1 load)} refl
    (whole-fits load w [] (over refl no_more))
load-fits load (Some w) (pair ∷ pairs) =
    node {inside = l.declarator (l.pattern_of 0 r.Binding w) (l.load_call 1 load)
    ++ l.declarator (l.load_pattern (pair ∷ pairs)) (l.named 1 r.Reference w)} refl
    (whole-fits load w (l.declarator (l.load_pattern (pair ∷ pairs)) (l.named 1 r.Reference w))
    (a_node {inside = l.load_pattern (pair ∷ pairs) ++ l.named 1 r.Reference w} refl
    (pattern-fits (pair ∷ pairs) (l.named 1 r.Reference w) (a_name refl no_more))
    (over refl no_more)))

-- ---- loads

-- Lists.

-- what the name of the whole binds
abbrev whole_binds : Text → ℕ → Option Ident → Bool
whole_binds x c None = false
whole_binds x c (Some w) = binds_it x c (w, true)

-- what the names of the statement bind
names-any : (x : Text) (c : ℕ) (load : Ident) (whole : Option Ident) (pairs : List Pair) →
    list_any (binds_it x c) (load_names load whole pairs)
    ≡ (whole_binds x c whole || list_any (binds_it x c) (map bound_name pairs))
names-any x c load None [] = refl
names-any x c load None (pair ∷ pairs) =
    any-append (binds_it x c) (map bound_name (pair ∷ pairs)) ((load, false) ∷ [])
    ∙ or-none (list_any (binds_it x c) (map bound_name (pair ∷ pairs)))
names-any x c load (Some w) [] = refl
names-any x c load (Some w) (pair ∷ pairs) =
    ap (λ b. binds_it x c (w, true) || b)
    (any-append (binds_it x c) (map bound_name (pair ∷ pairs)) ((w, false) ∷ [])
    ∙ or-none (list_any (binds_it x c) (map bound_name (pair ∷ pairs))))

-- What is due.

reached-further : (p : Program) (m n : ℕ) {a : ℕ} → Reaches (Requests p) a m → Requests p m n →
    Reaches (Requests p) a n
reached-further p m n itself asks = along asks itself
reached-further p m n (along e more) asks = along e (reached-further p m n more asks)

-- the function of a module that is loaded is in the bundle
pub load-top : (p : Program) (m c : ℕ) → IsDue p AsModule (Loads m c) → IsTopLabel p (Load c)
load-top p m c (loads_due reached other asks) = record {
  cause = Defines c;
  due =
      defines
      (reached-further p m c reached (declared_leads p m c asks.specifier asks.asks asks.resolved))
      asks.common_js;
  declares = adds adds_load;
}

-- The item.
module _ (p : Program) (hooks : Hooks) (list : List ℕ) (context : BundleContexts)
    (answers : ℕ → Option HookAnswer) (m c : ℕ) (due : IsDue p AsModule (Loads m c)) where
  abbrev load_ident : Ident
  load_ident = ident_of_label p list context (Load c)

  abbrev whole_ident : Ident
  whole_ident = ident_of_label p list context (Of (CommonJs m c Whole))

  abbrev pairs_of : List Text → List Pair
  pairs_of names = named_idents p list context (λ x. CommonJs m c (Named x)) names

  top-of : (its : Taken) → IsMeant p (Of (CommonJs m c its)) → IsTopLabel p (Of (CommonJs m c its))
  top-of its meant = record { cause = Loads m c; due = due; declares = adds (adds_taken meant) }

  load-tells : IsOfTop p list context (load_ident, false) (Known (Load c))
  load-tells = record { label = Load c; is = refl; there = load-top p m c due; ident = refl }

  whole-tells : (b : Bool) → IsMeant p (Of (CommonJs m c Whole)) →
      IsOfTop p list context (whole_ident, b) (Known (Of (CommonJs m c Whole)))
  whole-tells b meant =
      record { label = Of (CommonJs m c Whole); is = refl; there = top-of Whole meant; ident = refl }

  taken-tell : (names : List Text) →
      ((x : Text) → Contains names x → IsMeant p (Of (CommonJs m c (Named x)))) →
      AllZip (IsOfTop p list context) (map bound_name (pairs_of names))
      (map (λ (pair : Pair). Known (Of (CommonJs m c (Named pair.0)))) (pairs_of names))
  taken-tell names meant =
      names-tell p list context (λ x. CommonJs m c (Named x)) names
      (λ x has. top-of (Named x) (meant x has))

  names-mean : (whole : Bool) (names : List Text) →
      (whole ≡ true → IsMeant p (Of (CommonJs m c Whole))) →
      ((x : Text) → Contains names x → IsMeant p (Of (CommonJs m c (Named x)))) →
      AllZip (IsOfTop p list context)
      (load_names load_ident (if whole then Some whole_ident else None) (pairs_of names))
      (load_means m c (if whole then Some whole_ident else None) (pairs_of names))
  names-mean false [] is meant = (load-tells, tt)
  names-mean false (x ∷ names) is meant =
      zip-append (IsOfTop p list context) (map bound_name (pairs_of (x ∷ names)))
      ((load_ident, false) ∷ []) (map (taken_from_c m c) (pairs_of (x ∷ names))) (Known
      (Load c) ∷ []) (taken-tell (x ∷ names) meant)
      (load-tells, tt)
  names-mean true [] is meant = (whole-tells true (is refl), (load-tells, tt))
  names-mean true (x ∷ names) is meant = (
    whole-tells true (is refl),
    (
      load-tells,
      zip-append (IsOfTop p list context) (map bound_name (pairs_of (x ∷ names)))
          ((whole_ident, false) ∷ []) (map (taken_from_c m c) (pairs_of (x ∷ names)))
          (Known (Of (CommonJs m c Whole)) ∷ [])
          (taken-tell (x ∷ names) meant) (whole-tells false (is refl), tt),
    ),
  )

  there-is : (whole : Bool) → is_there (if whole then Some whole_ident else None) ≡ whole
  there-is true = refl
  there-is false = refl

  module _ (whole : Bool) (names : List Text)
      (are : AreNames (λ x. IsMeant p (Of (CommonJs m c (Named x)))) names)
      (is_whole : whole ≡ true → IsMeant p (Of (CommonJs m c Whole)))
      (whole_is : IsMeant p (Of (CommonJs m c Whole)) → whole ≡ true) where
    abbrev its_whole : Option Ident
    its_whole = if whole then Some whole_ident else None

    any-of : (x : Text) (k : ℕ) →
        list_any (binds_it x k) (load_names load_ident its_whole (pairs_of names))
        ≡ (whole_binds x k its_whole || list_any (binds_it x k) (map bound_name (pairs_of names)))
    any-of x k = names-any x k load_ident its_whole (pairs_of names)

    declares : (label : Label) → DeclaresLabel p (Loads m c) label →
        list_any
        (binds_it (ident_of_label p list context label).0 (ident_of_label p list context label).1)
        (load_names load_ident its_whole (pairs_of names))
        ≡ true
    declares label (adds (adds_taken {its = Named x} meant)) =
        any-of (ident_of_label p list context (Of (CommonJs m c (Named x)))).0
        (ident_of_label p list context (Of (CommonJs m c (Named x)))).1
        ∙ or_right _ _
        (name-bound p list context (λ x. CommonJs m c (Named x)) names x ((are.all x).1 meant))
    declares label (adds (adds_taken {its = Whole} meant)) =
        any-of whole_ident.0 whole_ident.1
        ∙ ap
        (λ b. whole_binds whole_ident.0 whole_ident.1 (if b then Some whole_ident else None)
        || list_any (binds_it whole_ident.0 whole_ident.1) (map bound_name (pairs_of names)))
        (whole_is meant)
        ∙ ap (λ b. b || list_any (binds_it whole_ident.0 whole_ident.1) (map bound_name
        (pairs_of names)))
        (binds-same (whole_ident, true) whole_ident refl refl)

    declared : (x : Text) (k : ℕ) →
        list_any (binds_it x k) (load_names load_ident its_whole (pairs_of names)) ≡ true →
        (label : Label) × DeclaresLabel p (Loads m c) label
        × ((x, k) ≡ ident_of_label p list context label)
    declared x k is = by_whole whole refl (sym (any-of x k) ∙ is)
      where
        by_names : list_any (binds_it x k) (map bound_name (pairs_of names)) ≡ true →
            (label : Label) × DeclaresLabel p (Loads m c) label
            × ((x, k) ≡ ident_of_label p list context label)
        by_names any =
            let it = bound-name p list context (λ x. CommonJs m c (Named x)) names x k any in
            (Of (CommonJs m c (Named it.0)), adds (adds_taken ((are.all it.0).0 it.1)), it.2)

        by_first : (b : Bool) → binds_it x k (whole_ident, true) ≡ b →
            IsMeant p (Of (CommonJs m c Whole)) →
            (b || list_any (binds_it x k) (map bound_name (pairs_of names))) ≡ true →
            (label : Label) × DeclaresLabel p (Loads m c) label
            × ((x, k) ≡ ident_of_label p list context label)
        by_first true first meant any = (
          Of (CommonJs m c Whole),
          adds (adds_taken meant),
          sym (binds-is (whole_ident, true) x k first).1,
        )
        by_first false first meant any = by_names any

        by_whole : (b : Bool) → whole ≡ b →
            (whole_binds x k (if b then Some whole_ident else None)
            || list_any (binds_it x k) (map bound_name (pairs_of names)))
            ≡ true →
            (label : Label) × DeclaresLabel p (Loads m c) label
            × ((x, k) ≡ ident_of_label p list context label)
        by_whole true e any =
            by_first (binds_it x k (whole_ident, true)) refl (is_whole e) any
        by_whole false e any = by_names any

    marked : HasMarks (l.load_statement load_ident its_whole (pairs_of names))
        (load_means m c its_whole (pairs_of names), i.load_statement m c whole names)
    marked =
        subst
        (λ b. HasMarks (l.load_statement load_ident its_whole (pairs_of names))
        (load_means m c its_whole (pairs_of names), i.load_statement m c b names))
        (there-is whole)
        (subst
        (λ its. HasMarks (l.load_statement load_ident its_whole (pairs_of names))
        (load_means m c its_whole (pairs_of names), i.load_statement m c (is_there its_whole) its))
        (names-again p list context (λ x. CommonJs m c (Named x)) names)
        (load_marked m c load_ident its_whole (pairs_of names)))

    pub loads-alone : IsItemAlone p hooks list context answers (Loads m c)
        (l.load_statement load_ident its_whole (pairs_of names))
    loads-alone =
        topped-alone p hooks list context answers (Loads m c)
        (λ c e. absurd cc)
        (l.load_statement load_ident its_whole (pairs_of names))
        (load_means m c its_whole (pairs_of names), i.load_statement m c whole names)
        (load_names load_ident its_whole (pairs_of names))
        (load-fits load_ident its_whole (pairs_of names)) marked
        (loads whole names are (is_whole, whole_is)) (load_lone load_ident its_whole
        (pairs_of names))
        (load-named load_ident its_whole (pairs_of names))
        (load-topped load_ident its_whole (pairs_of names))
        (names-mean whole names is_whole (λ x has. (are.all x).0 has)) tt declares declared
