-- What a module declares at its top is declared in an own statement, or imported.
use Rattle.std.proofs.Common.{◌≡◌, ◌⊎◌, inl, inr, ℕ, zero, ◌+◌, true, List, [], ◌∷◌, ◌++◌, append_assoc, length, Some, Contains, refl, sym, ap, ◌∙◌, subst}
use Rattle.std.specs.Prelude.{fold}
use Rattle.std.proofs.lemmas.Bool.{false≢true}
use Rattle.bundle_syntax.specs.declared.piece.Role.{Role}
use Rattle.bundle_syntax.specs.declared.piece.Role.TheVariants as r
use Rattle.bundle_syntax.specs.Item as h
use Rattle.bundle_syntax.specs.Item.{Item, Head}
use Rattle.bundle_rules.specs.Nodes.{side_by_side}
use Rattle.bundle_rules.specs.Places.{Spot, past, start, Occurrence, occurrences, occurrences_from, occurrence_of}
use Rattle.bundle_rules.specs.Scopes.{Es}
use Rattle.bundle_rules.specs.Declarations.{BySymbol, Declared, declared, declared_from, declaration_of}
use Rattle.bundle_rules.specs.Entries.{ImportEntry, imports_of, imports_of_item}
use Rattle.bundle_rules.specs.Meaning.{plain}
use Rattle.bundle_rules.specs.Statements.{TopItem, top_items, placed, Element, taken, default_name, default_binding, stated, own_statements}
use Rattle.bundle_scope_names.specs.fit.Sorts.{Many, slot, AModule, AnItem, takes_head, takes_name, names_of_sort, slots}
use Rattle.bundle_scope_names.specs.fit.Fits.{AreFit, no_more, over, a_name, a_node, IsFit, name, node}
use Rattle.bundle_link.proofs.NodePaths.{fold-append, fold-place}
use Rattle.bundle_merge_theory.proofs.fit.Clearing.{beside, no_name as no-module}
use Rattle.bundle_link_targets.proofs.ListLemmas.{first-there}
use Rattle.bundle_link_index.proofs.AskedLemmas.{none_there as none-there, flat_on}
use Rattle.bundle_link_index.proofs.ProgramLemmas.{later as later-there}
use Rattle.bundle_merge_theory.proofs.labels.Walked.{put-cases, put-later, put-first}
use Rattle.bundle_merge_theory.proofs.labels.Stated.{IsDeclaredBy, by_name, by_default, by_import, item-declares}

-- ---- the top items of a module, one after another
-- a declaration of one of the top items that stand in these elements from a spot on
record IsOfTop (s : Spot) (items : List Item) (d : Declared) : Type 0 where
  top : TopItem
  there : Contains (placed s.place (side_by_side zero (items ++ h.Close ∷ []))) top
  spot : Spot
  place : spot.place ≡ top.start
  by : IsDeclaredBy spot top.items d
  occurs : (o : Occurrence) → Contains (occurrences_from spot top.items) o →
      Contains (occurrences_from s items) o

pub occurs-front : (xs ys : List Item) (s : Spot) (o : Occurrence) →
    Contains (occurrences_from s xs) o →
    Contains (occurrences_from s (xs ++ ys)) o
occurs-front [] ys s o c = none-there o c
occurs-front (x ∷ xs) ys s o c =
    elim (put-cases (occurrence_of s x) (occurrences_from (past s x) xs) o c) [
      | inl e ↦ put-first (occurrence_of s x) (occurrences_from (past s x) (xs ++ ys)) o e
      | inr more ↦
          put-later (occurrence_of s x) (occurrences_from (past s x) (xs ++ ys)) o
          (occurs-front xs ys (past s x) o more)
    ]

pub occurs-behind : (xs ys : List Item) (s : Spot) (o : Occurrence) →
    Contains (occurrences_from (fold past s xs) ys) o →
    Contains (occurrences_from s (xs ++ ys)) o
occurs-behind [] ys s o c = c
occurs-behind (x ∷ xs) ys s o c =
    put-later (occurrence_of s x) (occurrences_from (past s x) (xs ++ ys)) o
    (occurs-behind xs ys (past s x) o c)

pub no-item : (role : Role) → takes_name role AnItem ≡ true → ⊥
no-item r.Binding is = false≢true is
no-item r.Reference is = false≢true is
no-item r.Word is = false≢true is

-- an item and what follows
whole-front : (hd : Head) (ins rest : List Item) →
    h.Open 0 hd ∷ (ins ++ h.Close ∷ rest) ≡ (h.Open 0 hd ∷ (ins ++ h.Close ∷ [])) ++ rest
whole-front hd ins rest = ap (λ l. h.Open 0 hd ∷ l) (sym (append_assoc ins (h.Close ∷ []) rest))

tops-declare : {items : List Item} → AreFit (slot 0 Many AnItem ∷ []) items → (s : Spot)
    (tail : List Item) (d : Declared) → Contains (declared_from BySymbol Es s (items ++ tail)) d →
    IsOfTop s items d ⊎ Contains (declared_from BySymbol Es (fold past s items) tail) d
tops-declare (over e no_more) s tail d c = inr c
tops-declare (a_name {role = role} it fit) s tail d c = absurd (no-item role it)
tops-declare (a_node {head = hd} {inside = ins} {rest = rest} it in_it fit) s tail d c =
    elim (item-declares s (rest ++ tail) d hd ins it in_it
    (subst (λ l. Contains (declared_from BySymbol Es s (h.Open 0 hd ∷ l)) d)
    (append_assoc ins (h.Close ∷ rest) tail) c)) [
      | inl here ↦ inl (record {
        top = record { start = s.place; items = item };
        there =
            subst (λ l. Contains (placed s.place l) (record { start = s.place; items = item }))
            (sym sides) (first-there _ _);
        spot = s;
        place = refl;
        by = here;
        occurs =
            λ o c. subst (λ l. Contains (occurrences_from s l) o) (sym (whole-front hd ins rest))
            (occurs-front item rest s o c);
      })
      | inr later ↦ elim (tops-declare fit (fold past s item) tail d later) [
        | inl its ↦ inl (record {
          top = its.top;
          there = subst (λ l. Contains (placed s.place l) its.top) (sym sides)
              (later-there _
              (placed (s.place + length item) (side_by_side zero (rest ++ h.Close ∷ [])))
              its.top
              (subst (λ n. Contains (placed n (side_by_side zero (rest ++ h.Close ∷ []))) its.top)
              (fold-place s item) its.there));
          spot = its.spot;
          place = its.place;
          by = its.by;
          occurs =
              λ o c. subst (λ l. Contains (occurrences_from s l) o) (sym (whole-front hd ins rest))
              (occurs-behind item rest s o (its.occurs o c));
        })
        | inr after ↦
            inr
            (subst (λ (t : Spot). Contains (declared_from BySymbol Es t tail) d)
            (sym (ap (fold past s) (whole-front hd ins rest) ∙ fold-append s item rest)) after)
      ]
    ]
  where
    item : List Item
    item = h.Open 0 hd ∷ (ins ++ h.Close ∷ [])

    sides : side_by_side zero (h.Open 0 hd ∷ ((ins ++ h.Close ∷ rest) ++ h.Close ∷ [])) ≡
        (h.Open 0 hd ∷ (ins ++ h.Close ∷ [])) ∷ side_by_side zero (rest ++ h.Close ∷ [])
    sides =
        ap (λ l. side_by_side zero (h.Open 0 hd ∷ l))
        (append_assoc ins (h.Close ∷ rest) (h.Close ∷ [])
        ∙ sym (append_assoc ins (h.Close ∷ []) (rest ++ h.Close ∷ [])))
        ∙ beside (node {sort = AnItem} {field = 0} {head = hd} {inside = ins} it in_it)
        (rest ++ h.Close ∷ [])

-- ---- a module
-- a declaration of a module: by a name in an own statement, by a default without a name, or by an
-- import
pub data IsDeclaredIn (tree : List Item) (d : Declared) : Type 0 where
  in_statement : (o : Occurrence) (statement : List Element) (field ctxt : ℕ) →
      Contains (occurrences tree) o →
      declaration_of BySymbol Es o ≡ Some d →
      Contains (own_statements tree) statement →
      Contains statement (taken d.place (h.Ident field d.name.sym ctxt r.Binding)) →
      d.name ≡ plain d.name.sym →
      IsDeclaredIn tree d
  without_name : (statement : List Element) →
      Contains (own_statements tree) statement →
      Contains statement default_binding →
      d.name.sym ≡ default_name →
      IsDeclaredIn tree d
  imported : (entry : ImportEntry) →
      Contains (imports_of tree) entry →
      entry.local ≡ d.name.sym →
      IsDeclaredIn tree d

module _ (ins : List Item) (fit : AreFit (slot 0 Many AnItem ∷ []) ins) where
  abbrev tree : List Item
  tree = h.Open 0 h.Module ∷ (ins ++ h.Close ∷ [])

  of-top : (d : Declared) → IsOfTop (past start (h.Open 0 h.Module)) ins d → IsDeclaredIn tree d
  of-top d its = by its.by
    where
      own : (statement : List Element) → Contains (stated its.spot.place its.top.items) statement →
          Contains (own_statements tree) statement
      own statement c =
          flat_on (λ (top : TopItem). stated top.start top.items) (top_items tree) its.top statement
          its.there
          (subst (λ n. Contains (stated n its.top.items) statement) its.place c)

      by : IsDeclaredBy its.spot its.top.items d → IsDeclaredIn tree d
      by (by_name o statement field ctxt there declares states stands named) =
          in_statement o statement field ctxt
          (occurs-front ins (h.Close ∷ []) (past start (h.Open 0 h.Module)) o
          (its.occurs o there)) declares (own statement states) stands named
      by (by_default statement states stands named) =
          without_name statement (own statement states) stands named
      by (by_import entry there local) =
          imported entry
          (flat_on (λ (top : TopItem). imports_of_item top.items) (top_items tree) its.top entry
          its.there there) local

  pub inside-declares : (d : Declared) → Contains (declared BySymbol Es tree) d →
      IsDeclaredIn tree d
  inside-declares d c =
      elim (tops-declare fit (past start (h.Open 0 h.Module)) (h.Close ∷ []) d c) [
        | inl its ↦ of-top d its
        | inr after ↦ none-there d after
      ]

pub module-head : (head : Head) → takes_head head AModule ≡ true → head ≡ h.Module
module-head h.Module is = refl
module-head _ is = absurd (false≢true is)

-- the form of a module
pub record IsModuleList (tree : List Item) : Type 0 where
  pub inside : List Item
  pub is : tree ≡ h.Open 0 h.Module ∷ (inside ++ h.Close ∷ [])
  pub fits : AreFit (slot 0 Many AnItem ∷ []) inside

pub module-list : {tree : List Item} → IsFit AModule 0 tree → IsModuleList tree
module-list (name {role = role} it) = absurd (no-module role it)
module-list (node {head = hd} {inside = ins} it in_it) =
    let is = module-head hd it in
    record {
      inside = ins;
      is = ap (λ k. h.Open 0 k ∷ (ins ++ h.Close ∷ [])) is;
      fits = subst (λ k. AreFit (slots k (names_of_sort AModule)) ins) is in_it;
    }

pub module-declares : (list : List Item) → IsFit AModule 0 list → (d : Declared) →
    Contains (declared BySymbol Es list) d → IsDeclaredIn list d
module-declares list fit d c =
    let its = module-list fit in
    subst (λ l. IsDeclaredIn l d) (sym its.is)
    (inside-declares its.inside its.fits d
    (subst (λ l. Contains (declared BySymbol Es l) d) its.is c))
