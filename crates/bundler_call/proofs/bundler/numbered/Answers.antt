-- What is kept grows by the number of each file, the files before it keep theirs, and those on the list were met.
use Rattle.std.proofs.Common.{[], ap, arith, inl, subst, sym, ◌∙◌}
use Rattle.std.specs.List.{AllZip}
use Rattle.bundle_tree_names.specs.declared.error.Error.TheVariants.{OutOfMemory}
use Rattle.bundle_rules.specs.Judging as j
use Rattle.bundle_rules.specs.Judging.{Stopped}
use Rattle.bundler_call.specs.Bundler.{entry_files, HasFileNumber}
use Rattle.bundler_call.specs.Kept.{kept_of}
use Rattle.bundler_call.specs.Loading.{files_on}
use Rattle.bundler_call.proofs.Leading.{as_many_files, files_from, listed_all, listed_more, numbers_end, numbers_next, numbers_stop, numbers_stopped, none_numbered, still_all_numbered, all_met_placed, none_met_of, still_all_met, entry_listed, numbered_more}
use Rattle.bundler_call.proofs.Growing.{advances_refl, advances_trans, ends_handed, ends_told}
use Rattle.bundler_call.proofs.bundler.numbered.Goals as goal

pub loop-file-init : goal.loop-file-init
loop-file-init g c = (λ settings. advances_refl _ _ settings (entry_files c.args.entries.now) _ _ (kept_of c.args.library.now.kept), subst (λ ids. AllZip (HasFileNumber (kept_of c.args.library.now.kept)) [] ids) (sym c.new-ids.ensures.items) tt, none_met_of (kept_of c.args.library.now.kept) (files_on c.new-list.result) c.new-list.ensures.files, λ outcome last numbers. numbers, λ apart. c.new-list.ensures.files, none_numbered (kept_of c.args.library.now.kept) c.new-list.result.files c.new-list.ensures.files, c.new-list.ensures.deps, λ less. (let no : ⊥ = omega (arith, less) in absurd no))

pub returns-in_err-id-clause-grows : goal.returns-in_err-id-clause-grows
returns-in_err-id-clause-grows g c = λ settings.
    advances_trans _ _ settings (entry_files c.args.entries.now) _ _ _ _ _ _ _ _ _ (c.loop-file.invariant.0 settings) (c.in_err-id.ensures.grows settings (entry_files c.args.entries.now) (inl (entry_listed c.args.entries.now c.loop-file.file-index _ c.loop-file-test.true (sym c.loop-file-item.is))))

pub returns-in_err-place-clause-grows : goal.returns-in_err-place-clause-grows
returns-in_err-place-clause-grows g c = λ settings.
    advances_trans _ _ settings (entry_files c.args.entries.now) _ _ _ _ _ _ _ _ _ (c.loop-file.invariant.0 settings) (c.in_ok-id.ensures.grows settings (entry_files c.args.entries.now) (inl (entry_listed c.args.entries.now c.loop-file.file-index _ c.loop-file-test.true (sym c.loop-file-item.is))))

pub returns-in_err-push-clause-grows : goal.returns-in_err-push-clause-grows
returns-in_err-push-clause-grows g c = λ settings.
    advances_trans _ _ settings (entry_files c.args.entries.now) _ _ _ _ _ _ _ _ _ (c.loop-file.invariant.0 settings) (c.in_ok-id.ensures.grows settings (entry_files c.args.entries.now) (inl (entry_listed c.args.entries.now c.loop-file.file-index _ c.loop-file-test.true (sym c.loop-file-item.is))))

pub place-requires : goal.place-requires
place-requires g c =
    (kept_of c.id.new.self.kept, c.in_ok-id.ensures.numbered, still_all_numbered _ _ c.in_ok-id.ensures.keeps.stays c.loop-file.list.files c.loop-file.invariant.5)

pub loop-file-preserved : goal.loop-file-preserved
loop-file-preserved g c =
    let stays = c.in_ok-id.ensures.keeps.stays in (
      λ settings. advances_trans _ _ settings (entry_files c.args.entries.now) _ _ _ _ _ _ _ _ _ (c.loop-file.invariant.0 settings) (c.in_ok-id.ensures.grows settings (entry_files c.args.entries.now) (inl (entry_listed c.args.entries.now c.loop-file.file-index _ c.loop-file-test.true (sym c.loop-file-item.is)))),
      numbered_more _ _ stays c.args.entries.now c.loop-file.ids.items _ c.loop-file.file-index _ _ c.loop-file-test.true (sym c.loop-file-item.is) c.in_ok-push.ensures.items c.loop-file.invariant.1 c.in_ok-id.ensures.numbered,
      all_met_placed (kept_of c.id.new.self.kept) (files_on c.loop-file.list) (files_on c.place.new.self) _ c.in_ok-place.ensures.placed (still_all_met _ _ stays (files_on c.loop-file.list) c.loop-file.invariant.2) c.in_ok-id.ensures.met,
      numbers_next (entry_files c.args.entries.now) _ _ _ (kept_of c.args.library.now.kept) (kept_of c.loop-file.library.kept) (kept_of c.id.new.self.kept) (files_from c.args.entries.now c.loop-file.file-index _ c.loop-file-test.true (sym c.loop-file-item.is)) c.loop-file.invariant.3 c.in_ok-id.ensures.judged,
      listed_more c.args.entries.now c.loop-file.file-index _ c.loop-file-test.true (sym c.loop-file-item.is) (files_on c.loop-file.list) (files_on c.place.new.self) c.in_ok-place.ensures.placed c.loop-file.invariant.4,
      c.in_ok-place.ensures.numbered (kept_of c.id.new.self.kept) c.in_ok-id.ensures.numbered (still_all_numbered _ _ stays c.loop-file.list.files c.loop-file.invariant.5),
      ap (λ deps. deps.items) c.in_ok-place.ensures.deps ∙ c.loop-file.invariant.6,
      λ less. c.in_ok-id.ensures.bounded,
    )

pub returns-clause-bounded : goal.returns-clause-bounded
returns-clause-bounded g c = λ some. c.loop-file.invariant.7 (omega (arith, some, c.loop-file-test.false))

pub returns-in_err-id-clause-judged : goal.returns-in_err-id-clause-judged
returns-in_err-id-clause-judged g c =
    ends_told _ _ _ _ c.from_residual.ensures.1
    (λ f its. numbers_stop (entry_files c.args.entries.now) _ _ _ (kept_of c.args.library.now.kept) (kept_of c.loop-file.library.kept) (kept_of c.id.new.self.kept) f (files_from c.args.entries.now c.loop-file.file-index _ c.loop-file-test.true (sym c.loop-file-item.is)) c.loop-file.invariant.3 its)
    (numbers_stopped (entry_files c.args.entries.now) _ (kept_of c.args.library.now.kept) (kept_of c.loop-file.library.kept) (kept_of c.id.new.self.kept) c.loop-file.invariant.3 c.in_err-id.ensures.unchanged)
    c.in_err-id.ensures.judged

pub returns-in_err-place-clause-judged : goal.returns-in_err-place-clause-judged
returns-in_err-place-clause-judged g c =
    ends_handed _ OutOfMemory _ c.from_residual-in_err-place.ensures.1
    (numbers_next (entry_files c.args.entries.now) _ _ _ (kept_of c.args.library.now.kept) (kept_of c.loop-file.library.kept) (kept_of c.id.new.self.kept) (files_from c.args.entries.now c.loop-file.file-index _ c.loop-file-test.true (sym c.loop-file-item.is)) c.loop-file.invariant.3 c.in_ok-id.ensures.judged Stopped (kept_of c.id.new.self.kept) j.NumbersEach.stopped)

pub returns-in_err-push-clause-judged : goal.returns-in_err-push-clause-judged
returns-in_err-push-clause-judged g c =
    ends_handed _ OutOfMemory _ c.from_residual-in_err-push.ensures.1
    (numbers_next (entry_files c.args.entries.now) _ _ _ (kept_of c.args.library.now.kept) (kept_of c.loop-file.library.kept) (kept_of c.id.new.self.kept) (files_from c.args.entries.now c.loop-file.file-index _ c.loop-file-test.true (sym c.loop-file-item.is)) c.loop-file.invariant.3 c.in_ok-id.ensures.judged Stopped (kept_of c.id.new.self.kept) j.NumbersEach.stopped)

pub returns-clause-judged : goal.returns-clause-judged
returns-clause-judged g c =
    numbers_end (entry_files c.args.entries.now) c.loop-file.file-index (kept_of c.args.library.now.kept) (kept_of c.loop-file.library.kept) (as_many_files c.args.entries.now c.loop-file.file-index c.loop-file-test.false) c.loop-file.invariant.3

pub returns-clause-all : goal.returns-clause-all
returns-clause-all g c = listed_all c.args.entries.now c.loop-file.file-index (files_on c.loop-file.list) c.loop-file-test.false c.loop-file.invariant.4
