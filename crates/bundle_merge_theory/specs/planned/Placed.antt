-- What is found of modules by their places in the list of a program, and the same by their numbers.
use Rattle.std.specs.Prelude.{ℕ, zero, ◌<◌, ◌↔◌, IsTrue, List, Contains, map, filter_map, slice_get, unwrap_or}
use Rattle.std.specs.List.{AllZip}
use Rattle.bundle_rules.specs.Program.{Program}
use Rattle.bundle_rules.specs.Linking.{HasExternalStar}
use Rattle.bundle_rules.specs.Bundle.{Form, externals}
use Rattle.bundle_link_targets.specs.Taken.{PicksThose}
use Rattle.bundle_merge_theory.specs.planned.Decided.{Decided, DecidedLoad, DecidedBlock, IsExternalDecided, IsModuleDecided, HandsOutNames, index_of, numbers_from}

-- the module at a place of a list
abbrev pub id_at : List ℕ → ℕ → ℕ
id_at list k = unwrap_or (slice_get list k) zero

-- what is loaded, by the number of the module
abbrev pub load_numbered : List ℕ → DecidedLoad → DecidedLoad
load_numbered list load = record {
  which = id_at list load.which;
  names = load.names;
  whole = load.whole;
}

-- a block, by the numbers of its modules
abbrev pub block_by : List ℕ → DecidedBlock → DecidedBlock
block_by list block = record {
  modules = filter_map (slice_get list) block.modules;
  is_sorted = block.is_sorted;
}

-- what is found by places in a list, by the numbers of the modules
abbrev pub renumbered : List ℕ → Decided → Decided
renumbered list f = record {
  list = list;
  is_common_js = λ m. f.is_common_js (index_of m list);
  loads = λ m. map (load_numbered list) (f.loads (index_of m list));
  has_meta = λ m. f.has_meta (index_of m list);
  statements = λ m. f.statements (index_of m list);
  is_object_meant = λ m. f.is_object_meant (index_of m list);
  externals = f.externals;
  stars = f.stars;
  exports = f.exports;
  blocks = map (block_by list) f.blocks;
}

-- what is found of n modules is what the definitions say of a program in which their numbers are
-- the places
pub record ArePlacesFound (q : Program) (form : Form) (n : ℕ) (f : Decided) : Type 0 where
  pub modules : (k : ℕ) → k < n → IsModuleDecided q f k
  pub within : (k : ℕ) (load : DecidedLoad) → Contains (f.loads k) load → load.which < n
  pub outside : AllZip (IsExternalDecided q) f.externals (externals q (numbers_from zero n))
  pub starred : PicksThose (HasExternalStar q q.entry) (externals q (numbers_from zero n)) f.stars
  pub exports : IsTrue f.exports ↔ HandsOutNames q form
