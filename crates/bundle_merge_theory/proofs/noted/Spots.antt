-- Spots of a tree, and what stands there.
use Rattle.std.proofs.Common.{◌≡◌, ℕ, ◌+◌, List, [], ◌∷◌, ◌++◌, append_assoc, length, take, drop, refl, sym, ap, ◌∙◌, subst, arith}
use Rattle.std.specs.Prelude.{fold, slice_get}
use Rattle.std.proofs.Math.Seq.{take-append_seam, drop-append_seam}
use Rattle.bundle_syntax.specs.Item as h
use Rattle.bundle_syntax.specs.Item.{Item, Head}
use Rattle.bundle_rules.specs.Places.{Around, Spot, in_field, outer_path, past, start, spot_before, path_to_option, path_at}
use Rattle.bundle_merge_theory.specs.noted.Nodes.{AreNodesInTurn, nothing, name, hole, node}
use Rattle.bundle_merge_theory.specs.noted.Agrees.{IsSpotAt}
pub use Rattle.bundle_merge_theory.specs.noted.Spots.{around_spot}
use Rattle.bundle_link.proofs.NodePaths.{get-behind, same-field, field-twice, spot-in, spot-behind}
pub use Rattle.bundle_link.proofs.NodePaths.{fold-append, fold-place}

-- ---- behind whole nodes the path is as before them, but for a field

pub fold-path : {xs : List Item} → AreNodesInTurn xs → (s : Spot) →
    (f : ℕ) × ((fold past s xs).path ≡ in_field f s.path)
fold-path nothing s = same-field s.path
fold-path (name {field = f} {ctxt = c} {sym = y} {role = r} are) s =
    fold-path are (past s (h.Ident f y c r))
fold-path (hole {field = f} are) s = fold-path are (past s (h.Hole f))
fold-path (node {field = f} {head = hd} {inside = ins} {rest = rest} in_it are) s =
    let inner = fold-path in_it (spot-in s f hd) in
    let more = fold-path are (spot-behind s f hd ins) in (
      more.0,
      ap (λ (t : Spot). t.path) (fold-append (spot-in s f hd) ins (h.Close ∷ rest))
          ∙ more.1
          ∙ ap (λ (l : List Around). in_field more.0 (outer_path l)) inner.1
          ∙ field-twice more.0 f s.path,
    )

pub path-behind : {inside : List Item} → AreNodesInTurn inside → (s : Spot) (field : ℕ) (head : Head) →
    (spot-behind s field head inside).path ≡ in_field field s.path
path-behind are s field head = ap outer_path (fold-path are (spot-in s field head)).1

-- ---- what stands at a spot
pub at-first : (tree : List Item) → IsSpotAt tree start tree
at-first tree = record { front = []; tree_is = refl; spot_is = refl }

pub at-behind : {tree : List Item} {s : Spot} (xs ys : List Item) → IsSpotAt tree s (xs ++ ys) →
    IsSpotAt tree (fold past s xs) ys
at-behind xs ys at = record {
  front = at.front ++ xs;
  tree_is = at.tree_is ∙ sym (append_assoc at.front xs ys);
  spot_is = ap (λ t. fold past t xs) at.spot_is ∙ sym (fold-append start at.front xs);
}

pub at-past : {tree : List Item} {s : Spot} (x : Item) (ys : List Item) → IsSpotAt tree s (x ∷ ys) →
    IsSpotAt tree (past s x) ys
at-past x ys at = at-behind (x ∷ []) ys at

pub at-as : {tree : List Item} {s t : Spot} {xs ys : List Item} → s ≡ t → xs ≡ ys →
    IsSpotAt tree s xs → IsSpotAt tree t ys
at-as {tree = tree} {t = t} {xs = xs} es ex at =
    subst (λ l. IsSpotAt tree t l) ex (subst (λ z. IsSpotAt tree z xs) es at)

pub at-place : {tree : List Item} {s : Spot} {rest : List Item} → (at : IsSpotAt tree s rest) →
    s.place ≡ length at.front
at-place {s = s} at =
    let n = fold-place start at.front in
    let e : s.place ≡ (fold past start at.front).place = ap (λ (t : Spot). t.place) at.spot_is in
    omega (arith, n, e)

pub at-get : {tree : List Item} {s : Spot} {rest : List Item} (at : IsSpotAt tree s rest) (j k : ℕ) →
    j ≡ s.place + k → slice_get tree j ≡ slice_get rest k
at-get {rest = rest} at j k e =
    let n = at-place at in
    ap (λ l. slice_get l j) at.tree_is ∙ get-behind at.front rest j k (omega (arith, n, e))

pub at-drop : {tree : List Item} {s : Spot} {rest : List Item} → IsSpotAt tree s rest →
    drop s.place tree ≡ rest
at-drop {tree = tree} {rest = rest} at =
    ap (λ n. drop n tree) (at-place at)
    ∙ ap (drop (length at.front)) at.tree_is
    ∙ drop-append_seam at.front rest

pub at-spot : {tree : List Item} {s : Spot} {rest : List Item} → IsSpotAt tree s rest →
    spot_before tree s.place ≡ s
at-spot {tree = tree} {s = s} {rest = rest} at =
    ap (fold past start)
    (ap (λ n. take n tree) (at-place at)
    ∙ ap (take (length at.front)) at.tree_is
    ∙ take-append_seam at.front rest)
    ∙ sym at.spot_is

pub at-path : {tree : List Item} {s : Spot} {rest : List Item} → IsSpotAt tree s rest →
    path_at tree s.place ≡ path_to_option s.path (slice_get rest 0)
at-path {tree = tree} {s = s} {rest = rest} at =
    ap (λ (t : Spot). path_to_option t.path (slice_get tree s.place)) (at-spot at)
    ∙ ap (path_to_option s.path) (at-get at s.place 0 (omega arith))
