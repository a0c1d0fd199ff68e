-- `listing_annotation::kept` meets its contract.
use mathlib.Core.List.{[]}
use Rattle.source.specs.Calls.{keeps_kind}
use Rattle.listing_annotation.proofs.Noted.{module_at, namespace_at}
use Rattle.listing_annotation.proofs.kept.Goals as goal

pub returns-in-Every : goal.returns-in-Every
unfolding keeps_kind
returns-in-Every c =
    λ txt. rw (c.in-Names.is, c.in-Every.is)

pub returns-in-Timers : goal.returns-in-Timers
unfolding keeps_kind
returns-in-Timers c =
    λ txt. rw (c.in-Names.is, c.in-Timers.is) c.is_of.ensures

pub returns-in-Ports : goal.returns-in-Ports
unfolding keeps_kind
returns-in-Ports c =
    λ txt. rw (c.in-Names.is, c.in-Ports.is) c.is_of-in-Ports.ensures

pub returns-in-Registers : goal.returns-in-Registers
unfolding keeps_kind
returns-in-Registers c =
    λ txt. rw (c.in-Names.is, c.in-Registers.is) c.is_of-in-Registers.ensures

pub returns-in-Module : goal.returns-in-Module
unfolding keeps_kind
returns-in-Module c =
    λ txt. rw (
      c.in-Modules.is,
      module_at c.args.words.now txt c.args.branch c.symbol_of-symbol.ensures
          c.in-Module.is,
    ) (c.keeps.ensures _ _)

pub returns-in-Namespace : goal.returns-in-Namespace
unfolding keeps_kind
returns-in-Namespace c =
    λ txt. rw (
      c.in-Modules.is,
      namespace_at c.args.words.now txt c.args.branch c.symbol_of-symbol.ensures
          c.in-Namespace.is,
    ) (c.keeps-in-Namespace.ensures _ [])
