-- The places of the entries that were passed are marked.
use Rattle.std.proofs.Common.{◌≡◌, ℕ, ◌&&◌, length, ltb, take}
use Rattle.std.specs.List.{list_any}
use Rattle.bundle_link_tables.specs.Free.{frees, is_place_marked}
use Rattle.bundle_link_tables.proofs.free.free_places.Given as goal

abbrev pub invariant-loop-occurrence : goal.invariant-loop-occurrence
invariant-loop-occurrence l =
    record {
      long : length l.free.items ≡ l.count;
      marked : (place : ℕ) → is_place_marked l.free.items place ≡ (ltb place l.count && list_any (frees place) (take l.occurrence-index l.denotations.occurrences.items));
    }
