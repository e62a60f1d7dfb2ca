-- The reads that were added, and those that are ahead.
use Rattle.std.proofs.Common.{◌≡◌, ◌++◌, length, map}
use Rattle.bundle_tree_places.specs.Placed.{word_told}
use Rattle.bundle_link_tables.specs.Used.{name_read, place_read, places_before}
use Rattle.bundle_link_tables.specs.Walked.{words_before}
use Rattle.bundle_link_tables.proofs.walk.add_reads.Given as goal

abbrev pub invariant-loop-name : goal.invariant-loop-name
invariant-loop-name l =
    (map name_read l.reads.items ++ words_before (word_told l.told) l.inner
    ≡ map name_read l.fn.reads.items ++ words_before (word_told l.told) l.place)
    × (map place_read l.reads.items ++ places_before l.inner (length (words_before (word_told l.told) l.inner))
    ≡ map place_read l.fn.reads.items ++ places_before l.place (length (words_before (word_told l.told) l.place)))

abbrev pub decreases-loop-name : goal.decreases-loop-name
decreases-loop-name l = l.inner
