-- How a run ends, by what was made and written.
use Rattle.std.proofs.Common.{◌≡◌, ◌≢◌, refl, sym, subst, inl, inr, ◌<◌, ◌++◌, ℕ, List, flat_map, map, string_bytes, Result, Ok, Err, IfOk, OnErr}
use Rattle.gutsirava_words.specs.declared.options.Options.{Options}
use Rattle.gutsirava_words.specs.declared.error.WordsError.{WordsError}
use Rattle.gutsirava_words.specs.declared.error.WordsError.TheVariants.{OutOfMemory}
use Rattle.gutsirava_bundle.specs.declared.bundling.Bundled.{Bundled}
use Rattle.gutsirava_graph.specs.declared.settings.OutputFormat.{OutputFormat}
use Rattle.gutsirava_run.specs.Delivery.{StoredFile, KeepsAll, HasViews, delivery_of, files_for, stored_file}
use Rattle.gutsirava_run.specs.Ending.{Known, Bundles, Ends, IsDelivered, IsUnwritten, IsRefused}
use Rattle.gutsirava_run.specs.Making.{IsMade, format_of}
use Rattle.gutsirava_run.specs.declared.error.RunError.{RunError}
use Rattle.gutsirava_run.specs.declared.store.OutputFile.{OutputFile}

pub ends_delivered : (may_refuse : Type 0) (options : Options) (bundled : Bundled) (format : OutputFormat) (made files : List OutputFile) (before after : Known)
    → format ≡ format_of options.format
    → map stored_file made ≡ flat_map (files_for options.output format options.source_map) bundled.outputs.items
    → HasViews options.output options.views (map stored_file made) (map stored_file files)
    → bundled.messages.errors ≡ 0 → IsDelivered options.output (delivery_of bundled.inputs.items files) before after
    → Ends may_refuse options bundled 0 before after
ends_delivered may_refuse options bundled format made files before after is of_bundles has fit delivered =
    let inputs = map string_bytes bundled.inputs.items in
    let P : OutputFormat → Type 0 = λ it. IsDelivered options.output
    (record { spared = inputs; files = flat_map (files_for options.output it options.source_map) bundled.outputs.items ++ has.added }) before after in
    let Q : List StoredFile → Type 0 = λ it. IsDelivered options.output (record { spared = inputs; files = it ++ has.added }) before after in
    let R : List StoredFile → Type 0 = λ it. IsDelivered options.output (record { spared = inputs; files = it }) before after in
    inl (refl, record { fit = fit; views = has.added; named = has.named; written = subst P is (subst Q of_bundles (subst R has.whole delivered)) })

pub ends_faulty : (may_refuse : Type 0) (options : Options) (bundled : Bundled) (status : ℕ) (before after : Known)
    → status ≡ 1 → 0 < bundled.messages.errors → IsUnwritten before after → Ends may_refuse options bundled status before after
ends_faulty may_refuse options bundled status before after one faulty unwritten =
    inr (one, record { why = inl faulty; unwritten = unwritten })

pub ends_refused : (may_refuse : Type 0) (options : Options) (bundled : Bundled) (status : ℕ) (before after : Known)
    → status ≡ 1 → may_refuse → IsUnwritten before after → Ends may_refuse options bundled status before after
ends_refused may_refuse options bundled status before after one refused unwritten =
    inr (one, record { why = inr refused; unwritten = unwritten })

pub bundles_told : (told : Result ℕ RunError) (status : ℕ) (is_real : List ℕ → List ℕ → Type 0) (may_refuse : Type 0) (folder : List ℕ) (options : Options) (bundled : Bundled) (before after : Known)
    → IsMade is_real folder options bundled → Ends may_refuse options bundled status before after → IfOk told (λ it. it ≡ status)
    → IfOk told (λ it. Bundles is_real may_refuse folder options it before after)
bundles_told (Ok it) status is_real may_refuse folder options bundled before after made ends is =
    let P : ℕ → Type 0 = λ n. Ends may_refuse options bundled n before after in
    record { bundled = bundled; made = made; ends = subst P (sym is) ends }
bundles_told (Err error) status is_real may_refuse folder options bundled before after made ends is = tt

kept : (status : ℕ) (may_refuse : Type 0) (options : Options) (bundled : Bundled) (before after : Known)
    → Ends may_refuse options bundled status before after → status ≢ 0 → KeepsAll before.stored after.stored
kept status may_refuse options bundled before after (inl written) ne = absurd (ne written.0)
kept status may_refuse options bundled before after (inr fails) ne = fails.1.unwritten.stored

pub kept_told : (told : Result ℕ RunError) (status : ℕ) (may_refuse : Type 0) (options : Options) (bundled : Bundled) (before after : Known)
    → Ends may_refuse options bundled status before after → OnErr told (status ≢ 0) → OnErr told (KeepsAll before.stored after.stored)
kept_told (Ok it) status may_refuse options bundled before after ends failed = tt
kept_told (Err error) status may_refuse options bundled before after ends failed =
    kept status may_refuse options bundled before after ends failed

pub refused_of : (error : WordsError) (status : ℕ) (before after : Known)
    → (error ≢ OutOfMemory → status ≡ 2) → (error ≡ OutOfMemory → status ≡ 1) → IsUnwritten before after → IsRefused error status before after
refused_of error status before after words memory unwritten =
    record { words = words; memory = memory; unwritten = unwritten }
