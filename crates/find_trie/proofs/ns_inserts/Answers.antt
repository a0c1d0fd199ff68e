-- ns_inserts meets its contract.
use mathlib.Core.Path.{refl}
use native.Mathlib.Omega.{arith}
use Rattle.find_trie.proofs.Symbols.{ns_inserts_none, ns_inserts_module, ns_inserts_namespace}
use Rattle.find_trie.proofs.ns_inserts.Goals as goal

pub returns-in_default : goal.returns-in_default
returns-in_default c =
    rw c.in_default.is (ns_inserts_none refl)

pub returns-in-Module : goal.returns-in-Module
returns-in-Module c =
    let some = rw c.in-Some.is at c.requires in
    rw c.in-Some.is (ns_inserts_module (λ z. omega (arith, some.0)) c.symbol_of.ensures c.in-Module.is)

pub returns-in-Namespace : goal.returns-in-Namespace
returns-in-Namespace c =
    let some = rw c.in-Some.is at c.requires in
    rw c.in-Some.is (ns_inserts_namespace (λ z. omega (arith, some.0)) c.symbol_of.ensures c.in-Namespace.is)
