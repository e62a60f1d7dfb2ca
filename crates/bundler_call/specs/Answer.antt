-- What a call answers, in the words of the definitions.
use Rattle.std.specs.Prelude.{Option, Some, None, Result, Ok, Err, map}
use Rattle.std.specs.String.{string_bytes}
use Rattle.std.specs.declared.alloc.Global.{Global}
use Rattle.std.specs.declared.vec.Vec.{Vec}
use Rattle.bundle_tree_listed.specs.Tree.{module_items}
use Rattle.bundle_tree_names.specs.declared.error.Error.{Error}
use Rattle.bundle_rules.specs.Faults.{Fault, fault_of}
use Rattle.bundle_rules.specs.Headline as h
use Rattle.bundler_call.specs.declared.bundle.Bundle.{Bundle}
use Rattle.bundler_call.specs.declared.bundle.BundleKind.{BundleKind}
use Rattle.bundler_call.specs.declared.bundle.BundleKind.TheVariants.{Named, Dynamic, Lib}

-- what a bundle is made for
abbrev pub kind_of : BundleKind → h.BundleKind
kind_of (Named name) = h.Named (string_bytes name)
kind_of Dynamic = h.Dynamic
kind_of (Lib name) = h.Lib (string_bytes name)

-- a bundle that is handed out: what it is made for, its number and its tree
abbrev pub bundled_of : Bundle → h.Bundled
bundled_of bundle =
    record { kind = kind_of bundle.kind; id = bundle.id; tree = module_items 0 bundle.module }

-- what a refusal tells: its fault, or that a growth was refused
abbrev pub refusal_of : Option Fault → h.Answer
refusal_of (Some fault) = h.Refusal fault
refusal_of None = h.NoMemory

-- bundles, or what the refusal tells
abbrev pub answer_told : Result (Vec Bundle Global) Error → h.Answer
answer_told (Ok bundles) = h.Bundles (map bundled_of bundles.items)
answer_told (Err refusal) = refusal_of (fault_of refusal)
