-- The replies of the program `console`, and what it is to write one into a lent text.
use Rattle.std.specs.Prelude.{ℕ, suc, ℤ, pos, negsuc}
use Rattle.source.specs.declared.LidSymbol.{LidSymbol}
use Rattle.script_replies.specs.declared.ItemReply.{ItemReply}
use Rattle.script_replies.specs.declared.ItemReply.TheVariants.{Name, Module, Namespace}
use Rattle.script_decimal.specs.Bytes.{Str, bytes, ◌·◌}
use Rattle.script_decimal.specs.Numerals.{decimal}
use Rattle.script_decimal.specs.Items.{name_text}

-- ---- Match lengths

-- A match length: -1 and up.
unfoldable pub signed : ℤ → Str
signed (pos n) = decimal n
signed (negsuc n) = bytes "-" · decimal (suc n)

-- ---- Replies

-- The item of a line: its kind and number in `complete`, m or n in `modules`.
unfoldable pub item_text : ItemReply → Str
item_text (Name c) = name_text c
item_text Module = bytes "m"
item_text Namespace = bytes "n"

-- `[ok R]`, R all records used.
unfoldable pub ok_reply : ℕ → Str
ok_reply r = bytes "[ok " · decimal r · bytes "]\n"

-- `[found N]`
unfoldable pub found_reply : LidSymbol → Str
found_reply c = bytes "[found " · name_text c · bytes "]\n"

-- `[none]`
unfoldable pub none_reply : Str
none_reply = bytes "[none]\n"

-- `[refused C]`
unfoldable pub refused_reply : ℕ → Str
refused_reply c = bytes "[refused " · decimal c · bytes "]\n"

-- `[bad]`
unfoldable pub bad_reply : Str
bad_reply = bytes "[bad]\n"

-- `[line L I [annotation] candidate]`
unfoldable pub line_reply : ℤ → ItemReply → Str → Str → Str
line_reply l item annotation candidate =
    bytes "[line " · signed l · bytes " " · item_text
    item · bytes " [" · annotation · bytes "] " · candidate · bytes "]\n"

-- `[end lines entered]`
unfoldable pub end_reply : ℕ → ℕ → Str
end_reply lines entered = bytes "[end " · decimal lines · bytes " " · decimal entered · bytes "]\n"

-- Room for any reply, the two texts of a line apart.
abbrev pub reply_room : ℕ
reply_room = 40
