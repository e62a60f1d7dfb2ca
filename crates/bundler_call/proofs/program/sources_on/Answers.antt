-- The first of the files that are left is kept, and so are the others; each is read.
use Rattle.std.proofs.Common.{◌+◌, ◌<◌, ◌≤◌, ◌∙◌, ap, drop, get_or, length, refl, subst}
use Rattle.bundler_entry.proofs.LinkedLemmas.{none-left, one-left}
use Rattle.bundler_call.specs.Kept.{kept_of, settings_of}
use Rattle.bundler_call.proofs.Leading.{first_kept, rest_kept}
use Rattle.bundler_call.proofs.Sources.{are_sources, first_numbered, read_all, read_more, read_none}
use Rattle.bundler_call.proofs.program.sources_on.Goals as goal

pub loop-file-init : goal.loop-file-init
loop-file-init c = (
  c.requires.sound,
  λ numbered. read_none (kept_of c.args.kept.now) (settings_of c.args.config.now) c.args.list.now.files c.args.list.now.files _ refl c.new-sources.ensures.items numbered,
)

pub kept_source-requires : goal.kept_source-requires
kept_source-requires c =
    let files = c.args.list.now.files in
    let i = c.loop-file.file-index in
    let e = c.loop-file-item.result in
    let same = c.as_slice-file-items.ensures in
    let is = c.loop-file-item.is ∙ ap (λ l. get_or l i e) same in
    let within = subst (λ l. i < length l) same c.loop-file-test.true in
    record {
      external = c.requires.external;
      sound = first_kept (kept_of c.args.kept.now) (drop i files) (drop (i + 1) files) e c.loop-file.invariant.0 (one-left files i e within is);
    }

pub loop-file-preserved : goal.loop-file-preserved
loop-file-preserved c =
    let kept = kept_of c.args.kept.now in
    let settings = settings_of c.args.config.now in
    let files = c.args.list.now.files in
    let i = c.loop-file.file-index in
    let e = c.loop-file-item.result in
    let same = c.as_slice-file-items.ensures in
    let within = subst (λ l. i < length l) same c.loop-file-test.true in
    let is = one-left files i e within (c.loop-file-item.is ∙ ap (λ l. get_or l i e) same) in (
      rest_kept kept (drop i files) (drop (i + 1) files) e c.loop-file.invariant.0 is,
      λ numbered. read_more kept settings files (drop i files) (drop (i + 1) files) e _ _ c.in_ok-kept_source.field-0 is c.in_ok-push.ensures.items
          (λ entry. c.in_ok-kept_source.ensures entry e.1 (first_numbered kept settings files (drop i files) (drop (i + 1) files) e _ is (c.loop-file.invariant.1 numbered)))
          (c.loop-file.invariant.1 numbered),
    )

pub returns : goal.returns
returns c = λ entry numbered.
    let files = c.args.list.now.files in
    let i = c.loop-file.file-index in
    let past = subst (λ l. length l ≤ i) c.as_slice-file-items.ensures c.loop-file-test.false in
    are_sources (kept_of c.args.kept.now) (settings_of c.args.config.now) files _
    (read_all (kept_of c.args.kept.now) (settings_of c.args.config.now) files (drop i files) _ (none-left files i past) (c.loop-file.invariant.1 numbered)) entry
