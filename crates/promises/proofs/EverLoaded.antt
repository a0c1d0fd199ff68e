-- In a table that calls made, look-up gives a loaded Module exactly where one of those calls registered it as loaded.
use mathlib.Core.Path.{◌≡◌, refl, sym, ap, ◌∙◌}
use mathlib.Core.Logic.{◌⊎◌, inl, inr, ⊎_elim, ◌↔◌}
use mathlib.Core.Bool.{Bool, true, false, ◌||◌, false≢true}
use mathlib.Core.List.{[], ◌∷◌, ◌++◌, append_assoc, nil≢cons}
use mathlib.Core.Option.{Option, none, some}
use Rattle.source.specs.Text.{Str, Query, segments}
use Rattle.source.specs.Types.{Value, bind, item, bindings, namespaces, trie_empty}
use Rattle.source.specs.Tries.{bind_option, names_find_exact, trie_find_exact}
use Rattle.source.specs.Table.{ModSymbol, Module, Namespace, Table, empty, insert, register_alias, register_include, register_open, loaded_module}
use Rattle.source.specs.Table.{register_module_stays_loaded, find_module_or_ns}
use Rattle.source.specs.Calls.{State, Call, name, include, opens, alias, module_path, fresh, registered, after}
use Rattle.source.proofs.Refusals.{accepted_is}
use Rattle.source.proofs.Elsewhere.{key_same_or_not}
use Rattle.promises.proofs.Keeps.{Made, made_fresh, made_by}
use Rattle.source.proofs.ModuleRules.{namespace_unloaded, module_replaces, namespace_first, namespace_keeps, namespace_replaces, unloaded_keeps}
use Rattle.source.proofs.ModuleRules.{module_elsewhere}

-- The call registers the query as a loaded Module.
abbrev pub Loads : Query → Call → Type 0
Loads q (name host id number) = ⊥
Loads q (include host included) = ⊥
Loads q (opens is_module host included) = ⊥
Loads q (alias key host included) = ⊥
Loads q (module_path loaded query path) = (loaded ≡ true) × (segments query ≡ q)

-- One of the calls that made the state does.
abbrev pub EverLoads : {σ : State} → Query → Made σ → Type 0
EverLoads q made_fresh = ⊥
EverLoads q (made_by sound lent c m e) = Loads q c ⊎ EverLoads q m

-- A query begins with another, or it does not.
abbrev Begins : Query → Query → Type 0
Begins q o = ((rest : Query) × (q ≡ o ++ rest)) ⊎ ((rest : Query) → q ≡ o ++ rest → ⊥)

begins : (q o : Query) → Begins q o
begins q [] = inl (q, refl)
begins [] (s ∷ o) = inr (λ rest e. nil≢cons e)
begins (h ∷ q) (s ∷ o) = go (key_same_or_not h s) (begins q o)
  where
    go : (h ≡ s) ⊎ (h ≡ s → ⊥) → Begins q o → Begins (h ∷ q) (s ∷ o)
    go (inl e) (inl r) = inl (r.0, let f = r.1 in cc)
    go (inl e) (inr n) = inr (λ rest f. n rest (cc))
    go (inr n) d = inr (λ rest f. n (cc))

module _ (p : Query) (s : Str) where
  -- Whether look-up gives a loaded Module.
  abbrev is_loaded : Table → Bool
  is_loaded tab = loaded_module (find_module_or_ns tab (p ++ (s ∷ [])))

  module _ (tbl : Table) (loaded : Bool) (path : Str) where
    abbrev new : Query → Table
    new q = register_module_stays_loaded tbl loaded path q

    -- A Namespace comes neither for a loaded Module nor as one.
    passed : (t : Str) (q : Query) (o : Option (Value ModSymbol bind)) → find_module_or_ns tbl (p ++ (s ∷ [])) ≡ o
        → is_loaded (new (p ++ (s ∷ (t ∷ q)))) ≡ loaded_module o
    unfolding loaded_module
    passed t q none e = rw (namespace_first tbl loaded path p s t q e)
    passed t q (some (item (Module n f b))) e = rw (namespace_keeps tbl loaded path p s t q (Module n f b) e tt)
    passed t q (some (item (Namespace n true))) e = rw (namespace_keeps tbl loaded path p s t q (Namespace n true) e tt)
    passed t q (some (item (Namespace n false))) e = go loaded
      where
        go : (b : Bool) → is_loaded (register_module_stays_loaded tbl b path (p ++ (s ∷ (t ∷ q)))) ≡ false
        go true = rw (namespace_replaces tbl path p s t q n e) (namespace_unloaded n true)
        go false = rw (unloaded_keeps tbl path p s t q (Namespace n false) e) (namespace_unloaded n false)

    -- The query, or what look-up gives is as loaded as it was.
    other_loaded : (q : Query) → (q ≡ p ++ (s ∷ [])) ⊎ (is_loaded (new q) ≡ is_loaded tbl)
    other_loaded q = go (begins q (p ++ (s ∷ [])))
      where
        longer : (rest : Query) → q ≡ p ++ (s ∷ rest) → (q ≡ p ++ (s ∷ [])) ⊎ (is_loaded (new q) ≡ is_loaded tbl)
        longer [] e = inl e
        longer (t ∷ rest) e = inr (rw e (passed t rest _ refl))

        go : Begins q (p ++ (s ∷ [])) → (q ≡ p ++ (s ∷ [])) ⊎ (is_loaded (new q) ≡ is_loaded tbl)
        go (inl r) = longer r.0 (r.1 ∙ append_assoc p (s ∷ []) r.0)
        go (inr n) = inr (ap loaded_module (module_elsewhere tbl loaded path q (p ++ (s ∷ [])) n))

    same_loaded : is_loaded (new (p ++ (s ∷ []))) ≡ is_loaded tbl || loaded
    unfolding loaded_module
    same_loaded = rw (module_replaces tbl loaded path p s)

    module_step : (q : Query)
        → (is_loaded (new q) ≡ true) ↔ (((loaded ≡ true) × (q ≡ p ++ (s ∷ []))) ⊎ (is_loaded tbl ≡ true))
    module_step q = go (other_loaded q)
      where
        or_parts : (a b : Bool) → a || b ≡ true → (a ≡ true) ⊎ (b ≡ true)
        or_parts true b e = inl refl
        or_parts false b e = inr e

        or_right : (a b : Bool) → b ≡ true → a || b ≡ true
        or_right true b e = refl
        or_right false b e = e

        go : (q ≡ p ++ (s ∷ [])) ⊎ (is_loaded (new q) ≡ is_loaded tbl)
            → (is_loaded (new q) ≡ true) ↔ (((loaded ≡ true) × (q ≡ p ++ (s ∷ []))) ⊎ (is_loaded tbl ≡ true))
        go (inl e) = rw e (
          λ h. ⊎_elim inr (λ l. inl (l, refl)) (or_parts (is_loaded tbl) loaded (sym same_loaded ∙ h)),
          ⊎_elim (λ l. same_loaded ∙ or_right (is_loaded tbl) loaded l.0) (λ h. same_loaded ∙ rw h),
        )
        go (inr e) = (λ h. inr (sym e ∙ h), ⊎_elim (λ l. rw l.1 (same_loaded ∙ or_right (is_loaded tbl) loaded l.0)) (λ h. e ∙ h))

  -- Of one call, for every table: loaded is what the call registers so, and what was loaded.
  pub loaded_after : (tbl : Table) (c : Call)
      → (is_loaded (registered tbl c) ≡ true) ↔ (Loads (p ++ (s ∷ [])) c ⊎ (is_loaded tbl ≡ true))
  unfolding registered insert register_include register_open register_alias find_module_or_ns
  loaded_after tbl (name host id number) = (inr, ⊎_elim absurd (λ e. e))
  loaded_after tbl (include host q) = (inr, ⊎_elim absurd (λ e. e))
  loaded_after tbl (opens true host q) = (inr, ⊎_elim absurd (λ e. e))
  loaded_after tbl (opens false host q) = (inr, ⊎_elim absurd (λ e. e))
  loaded_after tbl (alias key host q) = (inr, ⊎_elim absurd (λ e. e))
  loaded_after tbl (module_path loaded query path) = module_step tbl loaded path (segments query)

  fresh_none : (p : Query) → find_module_or_ns fresh.table (p ++ (s ∷ [])) ≡ none
  unfolding fresh empty trie_empty find_module_or_ns trie_find_exact names_find_exact bindings namespaces bind_option
  fresh_none [] = refl
  fresh_none (h ∷ []) = refl
  fresh_none (h ∷ (k ∷ p)) = refl

  pub ever_loaded : {x : State} (m : Made x)
      → (loaded_module (find_module_or_ns x.table (p ++ (s ∷ []))) ≡ true) ↔ EverLoads (p ++ (s ∷ [])) m
  unfolding loaded_module after
  ever_loaded made_fresh = (λ h. false≢true (rw (fresh_none p) at h), absurd)
  ever_loaded (made_by sound lent c m e) =
      let f = loaded_after _ c in
      let g = ever_loaded m in
      rw (accepted_is sound lent _ _ c e) (λ h. ⊎_elim inl (λ l. inr (g.0 l)) (f.0 h), λ h. f.1 (⊎_elim inl (λ l. inr (g.1 l)) h))
