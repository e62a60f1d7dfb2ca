-- The lists so far are the same, the contexts of plain words aside, and those passed have no others.
use Rattle.std.proofs.Common.{◌≡◌, length}
use Rattle.std.specs.List.{flat_map}
use Rattle.bundle_syntax.specs.declared.piece.Role.TheVariants.{Reference}
use Rattle.bundle_tree_listed.specs.Tree.{export_specifier_items}
use Rattle.bundle_scope.specs.Named.{words_aside}
use Rattle.bundle_scope.proofs.WordsLemmas.{AreClearTo}
use Rattle.bundle_scope.proofs.words.clear_exports.Given as goal

abbrev pub invariant-loop-place : goal.invariant-loop-place
invariant-loop-place l = (length l.specifiers.items ≡ l.place-end) × (words_aside (flat_map (export_specifier_items Reference 0) l.specifiers.items) ≡ words_aside (flat_map (export_specifier_items Reference 0) l.initial.specifiers.items))
    × AreClearTo (export_specifier_items Reference 0) l.place l.specifiers.items
