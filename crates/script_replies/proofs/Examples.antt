-- Replies: the session of the requirements and a few more.
use mathlib.Core.Path.{◌≡◌, refl}
use lib.IntN.{pos, negsuc}
use Rattle.source.specs.Items.{kind_letter}
use Rattle.source.specs.declared.ItemKind.TheVariants.{Timer, Register}
use Rattle.script_replies.specs.declared.ItemReply.TheVariants.{Name, Module}
use Rattle.script_decimal.specs.Bytes.{bytes}
use Rattle.script_decimal.specs.Numerals.{digits, decimal}
use Rattle.script_decimal.specs.Items.{name_text}
use Rattle.script_replies.specs.Replies.{signed, item_text, ok_reply, found_reply, line_reply, end_reply}

ok_text : ok_reply 19 ≡ bytes "[ok 19]\n"
unfolding bytes ok_reply decimal digits
ok_text = refl

line_text : line_reply (pos 8) (Name (record { kind = Register; number = 3 })) (bytes "") (bytes "Live.offset")
    ≡ bytes "[line 8 r3 [] Live.offset]\n"
unfolding bytes line_reply signed item_text name_text kind_letter decimal digits
line_text = refl

found_text : found_reply (record { kind = Timer; number = 5 }) ≡ bytes "[found t5]\n"
unfolding bytes found_reply name_text kind_letter decimal digits
found_text = refl

modules_text : line_reply (negsuc 0) Module (bytes "") (bytes "IO.Bus") ≡ bytes "[line -1 m [] IO.Bus]\n"
unfolding bytes line_reply signed item_text decimal digits
modules_text = refl

end_text : end_reply 1 4294967295 ≡ bytes "[end 1 4294967295]\n"
unfolding bytes end_reply decimal digits
end_text = refl
