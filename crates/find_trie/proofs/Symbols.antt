-- Whether ins_ns inserts, and whether a Module is loaded, by the symbol of the holder.
use Prim.Native.Nat.{ℕ}
use mathlib.Core.Path.{◌≡◌, refl}
use mathlib.Core.Bool.{Bool, true, false, not, ◌&&◌}
use mathlib.Core.List.{List}
use mathlib.Core.Option.{none, some}
use lib.Dec.{eqb}
use borrow.Author.Tests.{ne_eqb}
use Rattle.source.specs.Text.{Str}
use Rattle.source.specs.Types.{bind, item}
use Rattle.source.specs.Table.{ns_inserts, loaded_module}
use Rattle.source.specs.Table as S
use Rattle.memory.specs.Layout.{pick, modules, record_at}
use Rattle.memory.specs.Read.{symbol_in, symbol_of}
use Rattle.memory.specs.declared.Span.{Span}
use Rattle.memory.specs.declared.ModSymbol.{ModSymbol}
use Rattle.memory.specs.declared.ModSymbol.TheVariants.{Module, Namespace}
use Rattle.memory.proofs.Seen.{symbol_item}
use Rattle.find_tree.specs.Tree.{held}
use Rattle.find_trie.specs.Tries.{NsInserts, LoadedModule}

-- What a holder gives, by its symbol.
held_symbol : (ws txt : List ℕ) (holder : ℕ) {m : ModSymbol} → (holder ≡ 0 → ⊥) → m ≡ symbol_in (record_at ws holder)
    → pick (eqb holder 0) none (some (held modules ws txt bind holder)) ≡ some (item (symbol_of txt m))
unfolding held
held_symbol ws txt holder h e = rw (ne_eqb holder 0 h, ← symbol_item txt (record_at ws holder), ← e)

ns_inserts_seen : (name : Str) (seen loaded : Bool)
    → not seen && loaded ≡ ns_inserts (some (item (S.Namespace name seen))) loaded
unfolding ns_inserts
ns_inserts_seen name true loaded = refl
ns_inserts_seen name false loaded = refl

module _ {ws : List ℕ} {holder : ℕ} where
  module _ (e : holder ≡ 0) where
    pub ns_inserts_none : {loaded : Bool} → NsInserts ws holder loaded true
    unfolding ns_inserts
    ns_inserts_none = record { says = λ txt. rw e }

    pub loaded_none : LoadedModule ws holder false
    unfolding loaded_module
    loaded_none = record { says = λ txt. rw e }

  module _ (h : holder ≡ 0 → ⊥) {m : ModSymbol} (e : m ≡ symbol_in (record_at ws holder)) where
    module _ {full path : Span} {seen : Bool} (k : m ≡ Module full path seen) where
      pub ns_inserts_module : {loaded : Bool} → NsInserts ws holder loaded false
      unfolding ns_inserts
      ns_inserts_module = record { says = λ txt. rw (held_symbol ws txt holder h e, k) }

      pub loaded_is_module : LoadedModule ws holder seen
      unfolding loaded_module
      loaded_is_module = record { says = λ txt. rw (held_symbol ws txt holder h e, k) }

    module _ {full : Span} {seen : Bool} (k : m ≡ Namespace full seen) where
      pub ns_inserts_namespace : {loaded : Bool} → NsInserts ws holder loaded (not seen && loaded)
      ns_inserts_namespace = record { says = λ txt. rw (held_symbol ws txt holder h e, k) (ns_inserts_seen _ seen _) }

      pub loaded_is_namespace : LoadedModule ws holder false
      unfolding loaded_module
      loaded_is_namespace = record { says = λ txt. rw (held_symbol ws txt holder h e, k) }
