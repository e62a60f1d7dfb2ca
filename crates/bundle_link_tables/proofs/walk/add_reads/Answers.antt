-- A read more was added; none is ahead where no word is told.
use Rattle.std.proofs.Common.{◌≡◌, ◌+◌, ◌-◌, ◌++◌, List, append-nil, length, map, refl, sym, ap, ◌∙◌, arith}
use Rattle.bundle_rules.specs.Nodes.{Text}
use Rattle.bundle_tree_places.specs.Placed.{word_told}
use Rattle.bundle_tree_places.specs.Seconds.{text_of}
use Rattle.bundle_link_tables.specs.Used.{name_read, place_read, places_before}
use Rattle.bundle_link_tables.specs.Walked.{words_before}
use Rattle.bundle_link_tables.specs.declared.table.MemberRead.{MemberRead}
use Rattle.bundle_link_tables.proofs.MarkLemmas.{places_end, places_more, reads_more, words_end, words_more}
use Rattle.bundle_link_tables.proofs.walk.add_reads.Goals as goal

pub loop-name-preserved : goal.loop-name-preserved
loop-name-preserved c =
    let word = word_told c.args.told.now in
    let n = c.loop-name.inner in
    let name = c.in-Some.name in
    let some = c.in-Some.ensures.some in
    let next : n - 1 + 1 ≡ n = omega (arith, some) in
    let words = words_more word n (n - 1) name.now (sym c.word_before.ensures.word ∙ ap text_of c.in-Some.is) next in
    let read : MemberRead = record { place = n - 1; name = name } in (
      ap (λ (l : List MemberRead). map name_read l ++ words_before word (n - 1)) c.in_ok-push.ensures.items
          ∙ reads_more c.loop-name.reads.items read (words_before word n) (words_before word (n - 1)) words
          ∙ c.loop-name.invariant.0,
      ap (λ (l : List MemberRead). map place_read l ++ places_before (n - 1) (length (words_before word (n - 1)))) c.in_ok-push.ensures.items
          ∙ places_more c.loop-name.reads.items read n (words_before word n) (words_before word (n - 1)) name.now words refl
          ∙ c.loop-name.invariant.1,
    )

pub returns-clause-words : goal.returns-clause-words
returns-clause-words c =
    let word = word_told c.args.told.now in
    let n = c.loop-name.inner in
    let names = map name_read c.loop-name.reads.items in
    sym (append-nil names)
    ∙ ap (λ (l : List Text). names ++ l) (sym (words_end word n (sym c.word_before.ensures.word ∙ ap text_of c.in_default.is)))
    ∙ c.loop-name.invariant.0

pub returns-clause-places : goal.returns-clause-places
returns-clause-places c =
    let word = word_told c.args.told.now in
    let n = c.loop-name.inner in
    sym (places_end (map place_read c.loop-name.reads.items) n (words_before word n) (words_end word n (sym c.word_before.ensures.word ∙ ap text_of c.in_default.is)))
    ∙ c.loop-name.invariant.1
