-- A line is spelled by one command at most.
use mathlib.Core.Path.{◌≡◌, refl, sym, ap, ◌∙◌, ap₂}
use Rattle.source.specs.declared.LidSymbol.{LidSymbol}
use Rattle.script_decimal.specs.declared.Sort.TheVariants.{Query, Word}
use Rattle.script.specs.declared.Key.{Key}
use Rattle.script.specs.declared.Key.TheVariants.{Name as NameKey, Alias as AliasKey, Import as ImportKey, Module as ModuleKey, Ask as AskKey}
use Rattle.script_decimal.specs.Bytes.{Str}
use Rattle.script.specs.Script.{key, Command, Reads}
use Rattle.script_decimal.specs.Numerals.{value_from}
use Rattle.script.specs.Keys.{key_of}
use Rattle.script_decimal.specs.Items.{written_kind, written_digits, ItemText}
use Rattle.script_parts.specs.Parts.{IdEnd, PairEnd, QueryEnd}
use Rattle.script_parts.proofs.Runs.{piece_once}
use Rattle.script_parts.proofs.Parts.{last_once, stops_query, stops_word, query_piece, pair_piece, id_piece}
use Rattle.script.proofs.Forms.{Keyed, after, reads_keyed, name_piece, name_id, import_pair, alias_piece, alias_pair, module_piece, ask_query}

item_once : {w w' : Str} {c c' : LidSymbol} → ItemText w c → ItemText w' c' → w ≡ w' → c ≡ c'
item_once a b e =
    ap₂ (λ k n. record { kind = k; number = n })
    (a.kind_is ∙ ap written_kind e ∙ sym b.kind_is)
    (sym a.number_is.value ∙ ap (λ w. value_from 0 (written_digits w)) e ∙ b.number_is.value)

query_once : {s q q' : Str} → QueryEnd s q → QueryEnd s q' → q ≡ q'
query_once a b = (piece_once Query stops_query (query_piece a) (query_piece b)).0

pair_once : {s h q h' q' : Str} → PairEnd s h q → PairEnd s h' q' → (h ≡ h') × (q ≡ q')
pair_once a b =
    let o = piece_once Query stops_query (pair_piece a) (pair_piece b) in
    (o.0, query_once (record { query_ok = a.query_ok; spelled = refl }) (record { query_ok = b.query_ok; spelled = o.1 }))

id_once : {s i i' : Str} {c c' : LidSymbol} → IdEnd s i c → IdEnd s i' c' → (i ≡ i') × (c ≡ c')
id_once a b =
    let o = piece_once Word stops_word (id_piece a) (id_piece b) in
    (o.0, item_once a.item b.item (last_once a.word b.word o.1))

-- Two commands of one form that one line spells.
keyed_once : (line : Str) (k : Key) (c d : Command) → Keyed line c k → Keyed line d k → c ≡ d
keyed_once line NameKey c d a b =
    let o = piece_once Query stops_query (name_piece a.4 refl) (name_piece b.4 (after (key NameKey) a.4.spelled b.4.spelled)) in
    let i = id_once (name_id a.4 refl) (name_id b.4 o.1) in
    cc
keyed_once line (ImportKey how) c d a b =
    let o = pair_once (import_pair a.3 refl) (import_pair b.3 (after (key (ImportKey how)) a.3.spelled b.3.spelled)) in
    cc
keyed_once line AliasKey c d a b =
    let o = piece_once Word stops_word (alias_piece a.4 refl) (alias_piece b.4 (after (key AliasKey) a.4.spelled b.4.spelled)) in
    let q = pair_once (alias_pair a.4 refl) (alias_pair b.4 o.1) in
    cc
keyed_once line (ModuleKey loaded) c d a b =
    let o = piece_once Query stops_query (module_piece a.3 refl) (module_piece b.3 (after (key (ModuleKey loaded)) a.3.spelled b.3.spelled)) in
    let p = last_once a.1 b.1 o.1 in
    cc
keyed_once line (AskKey what) c d a b =
    let q = query_once (ask_query a.2 refl) (ask_query b.2 (after (key (AskKey what)) a.2.spelled b.2.spelled)) in
    cc

-- A line says one thing at most.
pub reads_once : (line : Str) (c d : Command) → Reads line c → Reads line d → c ≡ d
reads_once line c d a b = keyed_once line (key_of line) c d (reads_keyed line c a) (reads_keyed line d b)
