-- The faults and the requests of a module as it was handed in are those of it as it is kept.
use Rattle.std.proofs.Common.{Bor, ap, map}
use Rattle.std.specs.Option.{option_map}
use Rattle.std.specs.String.{string_bytes}
use Rattle.std.proofs.lemmas.Result.{IfErr-weaker, IfOk-weaker}
use Rattle.bundle_tree_names.specs.FileName.{name_of}
use Rattle.bundle_tree.specs.declared.load.ModuleData.{ModuleData}
use Rattle.bundler_call.specs.Kept.{kept_as}
use Rattle.bundler_call.proofs.Sources.{found_as, read_faulty, read_faultless}
use Rattle.bundler_call.proofs.load.kept_requests.Goals as goal

pub returns-clause-faulty : goal.returns-clause-faulty
returns-clause-faulty g c =
    IfErr-weaker c.requests_by.result _ _
    (λ refusal told loaded is. read_faulty (name_of c.args.file.now) c.unwrap-loaded.result.now refusal told loaded (found_as _ _ loaded (kept_as c.unwrap-loaded.result.now) c.module.ensures (ap (option_map (λ (x : Bor ModuleData). kept_as x.now)) c.unwrap-loaded.ensures) is))
    c.requests_by.ensures.refused

pub returns-clause-faultless : goal.returns-clause-faultless
returns-clause-faultless g c =
    IfOk-weaker c.requests_by.result _ _
    (λ texts table loaded is. read_faultless c.args.config.now (name_of c.args.file.now) c.unwrap-loaded.result.now (map string_bytes texts.items) table loaded (found_as _ _ loaded (kept_as c.unwrap-loaded.result.now) c.module.ensures (ap (option_map (λ (x : Bor ModuleData). kept_as x.now)) c.unwrap-loaded.ensures) is))
    c.requests_by.ensures.given
