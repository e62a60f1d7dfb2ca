-- The marks of the object of `import.meta` are those of what the hook answered, which mean what
-- that means.
use Rattle.std.proofs.Common.{◌≡◌, ℕ, suc, true, List, [], ◌∷◌, ◌++◌, None, Some, filter, filter_map, map, slice_get, append-nil, unwrap_or, refl, ap, sym, ◌∙◌, subst, arith, le-leb}
use Rattle.std.specs.Prelude.{Contains, position}
use Rattle.std.specs.List.{AllZip}
use Rattle.std.proofs.lemmas.Bool.{false≢true}
use Rattle.bundle_syntax.specs.Item as h
use Rattle.bundle_syntax.specs.Item.{Item}
use Rattle.bundle_rules.specs.Places.{occurrences_from}
use Rattle.bundle_rules.specs.Scopes.{Es}
use Rattle.bundle_rules.specs.Declarations.{BySymbol, declared}
use Rattle.bundle_rules.specs.Denotes.{Denoted, Bound, Global, denoted_of, denotations}
use Rattle.bundle_rules.specs.Idents.{Ident}
use Rattle.bundle_rules.specs.Injected as i
use Rattle.bundle_rules.specs.Mentions.{same_denoted, each_denoted_once}
use Rattle.bundle_rules.specs.Statements.{taken_from}
use Rattle.bundle_syntax.specs.declared.kind.ExportMetadata.{ExportMetadata}
use Rattle.bundle_scope_names.specs.fit.Sorts.{AProperty, Many, slot}
use Rattle.bundle_scope_names.specs.fit.Fits.{AreFit}
use Rattle.bundle_rules.specs.Meaning.{View, Sense, Replacement, Meant, Inside, Known, Unbound, Mark, Meta, NameMeans, inside, unbound, finished, denoted, is_inside, inner_bindings, bundle_sense}
use Rattle.bundle_rules.specs.Bundle.{PropertiesMean, properties_tree}
use Rattle.bundle_tree_places.specs.Edits.{InObject, node}
use Rattle.bundle_merge_injected.specs.Listed as l
use Rattle.bundle_merge_theory.specs.noted.Marked.{Note, Marked}
use Rattle.bundle_merge_theory.specs.noted.Agrees.{IsSpotAt, AgreeInTurn, IsListing}
use Rattle.bundle_merge_theory.specs.walked.Keeps.{notes_alone}
use Rattle.bundle_merge_theory.specs.walked.Renaming.{HasMarks}
use Rattle.bundle_merge_theory.proofs.noted.Bridge.{bridge}
use Rattle.bundle_merge_theory.proofs.noted.Statements.{denoted_elements}
use Rattle.bundle_merge_theory.proofs.noted.Inner.{inside-position, any-there, means_as}
use Rattle.bundle_merge_theory.proofs.noted.UsesAgree.{all_agree, all_clear, none_notable}
use Rattle.bundle_merge_theory.proofs.walked.NameLemmas.{MeansNote, each_means}
use Rattle.bundle_merge_theory.proofs.walked.Loading.{meta_marked}
use Rattle.bundle_merge_theory.proofs.fit.Facts.{one_listing}
use Rattle.bundle_merge_theory.proofs.answered.Inward.{IsInwardDenoted, bound_inward, not_bound}
use Rattle.bundle_merge_theory.proofs.answered.Rewritten.{alone_spot, occurrences-alone, tree-fit, denotation-inward}
use Rattle.bundle_link_index.proofs.ProgramLemmas.{got_there as listed-contains}

-- the properties by themselves, as they are read
module _ (properties : List Item) where
  abbrev pub its_view : View
  its_view = record { tree = properties_tree properties; kind = Es; reading = BySymbol }

  abbrev pub its_names : List Denoted
  its_names = denotations BySymbol Es (properties_tree properties)

  -- its bindings
  abbrev pub its_inner : List Denoted
  its_inner = inner_bindings its_view 0 (taken_from 3 properties)

  at-properties : IsSpotAt (properties_tree properties) alone_spot
      (properties ++ h.Close ∷ h.Close ∷ h.Close ∷ [])
  at-properties = record {
    front = h.Open 0 h.Module ∷ h.Open 0 h.ExprStmt ∷ h.Open 0 h.ObjectLit ∷ [];
    tree_is = refl;
    spot_is = refl;
  }

  elements-denote : filter_map (denoted its_view) (taken_from 3 properties) ≡ its_names
  elements-denote =
      denoted_elements its_view alone_spot properties
      (h.Close ∷ h.Close ∷ h.Close ∷ []) at-properties
      ∙ ap (map (denoted_of BySymbol Es (declared BySymbol Es (properties_tree properties))))
      (sym (occurrences-alone properties))

  pub inner-names : its_inner ≡ each_denoted_once (filter (is_inside 0) its_names)
  inner-names = ap (λ ds. each_denoted_once (filter (is_inside 0) ds)) elements-denote

  -- what a name means that denotes this
  abbrev pub meant_of : Denoted → Meant
  meant_of (Bound scope name) =
      Inside (unwrap_or (position (same_denoted (Bound scope name)) its_inner) 0)
  meant_of (Global x) = Unbound x

  -- a binding inside has a number
  pub numbered-inside : (d : Denoted) → Contains its_names d → is_inside 0 d ≡ true →
      (n : ℕ) × (position (same_denoted d) its_inner ≡ Some n)
  numbered-inside d there is_in =
      inside-position its_view 0 (taken_from 3 properties) d
      (any-there 0 d (filter_map (denoted its_view) (taken_from 3 properties)) is_in
      (subst (λ ds. Contains ds d) (sym elements-denote) there))

  means-so : (d : Denoted) → Contains its_names d → IsInwardDenoted d →
      NameMeans (bundle_sense (properties_tree properties) BySymbol []) its_inner d (meant_of d)
  means-so d there (not_bound {x = x}) = unbound
  means-so d there (bound_inward {kind = kind} {begins = a} {name = name}) =
      let it = numbered-inside d there (le-leb 0 a (omega arith)) in
      inside (it.1 ∙ ap (λ o. Some (unwrap_or o 0)) (sym it.1))

  -- of all names in turn
  abbrev pub its_meants : List Meant
  its_meants = map meant_of its_names

  all-mean : (ds : List Denoted) →
      ((i : ℕ) (d : Denoted) → slice_get ds i ≡ Some d →
      NameMeans (bundle_sense (properties_tree properties) BySymbol []) its_inner d (meant_of d)) →
      AllZip (MeansNote (bundle_sense (properties_tree properties) BySymbol []) its_inner) ds
      (notes_alone (map meant_of ds))
  all-mean [] each = tt
  all-mean (d ∷ ds) each = ((refl, each 0 d refl), all-mean ds (λ i e at. each (suc i) e at))

-- the item is marked where its properties are
pub object-marked : (notes : ExportMetadata) (name : Ident) (m : ℕ)
    (properties within : List Item) (marks : List Mark) →
    Marked None InObject (notes_alone (its_meants properties)) within marks [] →
    HasMarks (l.constant notes name (node 1 h.ObjectLit within))
    (Known (Meta m) ∷ its_meants properties, i.meta_object m marks)
object-marked notes name m properties within marks result =
    meta_marked notes name m within (its_meants properties) marks result

-- what was answered means its marks
pub properties-mean : (properties : List Item) → AreFit (slot 0 Many AProperty ∷ []) properties →
    (marks : List Mark) → Marked None InObject (notes_alone (its_meants properties)) properties marks [] →
    PropertiesMean properties marks
properties-mean properties fit marks marked =
    let tree : List Item = properties_tree properties in
    let sense : Sense = bundle_sense tree BySymbol [] in
    let notes : List Note = notes_alone (its_meants properties) in
    let nothing : (place : ℕ) (by : Replacement) → sense.replaced place by → ⊥ =
    λ place by none. none in
    let listing : IsListing tree = one_listing (tree-fit properties fit) in
    let means =
    all-mean properties (its_names properties)
    (λ i d at. means-so properties d (listed-contains (its_names properties) i d at)
    (denotation-inward properties fit i d at)) in
    let each =
    each_means sense (its_inner properties) alone_spot properties
    (h.Close ∷ h.Close ∷ h.Close ∷ []) (at-properties properties) notes
    (subst
    (λ os. AllZip (MeansNote sense (its_inner properties))
    (map (denoted_of BySymbol Es (declared BySymbol Es tree)) os) notes)
    (occurrences-alone properties) means) in
    let agree =
    all_agree sense (its_inner properties) nothing
    (occurrences_from alone_spot properties) notes each in
    let bridged =
    bridge sense (its_inner properties) None listing
    (none_notable sense (its_inner properties) nothing None refl) marked alone_spot
    (h.Close ∷ h.Close ∷ h.Close ∷ []) [] (at-properties properties)
    (record {
      object = refl;
      default = λ is. absurd (false≢true is);
      clear = all_clear sense (its_inner properties) nothing alone_spot.path;
    })
    (subst (λ l. AgreeInTurn sense (its_inner properties) l notes) (sym (append-nil
    (occurrences_from alone_spot properties))) agree) in
    means_as sense (its_inner properties) (append-nil (taken_from 3 properties))
    (append-nil marks) (bridged.gives.before [] [] finished)
