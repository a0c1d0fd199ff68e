-- put_texts meets its contract.
use Rattle.register.proofs.TextsLaid.{texts_laid}
use Rattle.register.proofs.put_texts.Goals as goal

pub returns : goal.returns
returns c =
    texts_laid _ _ _ _ _ c.requires.key_in_bounds c.put_text.ensures c.put_text-2.ensures
    c.put_text-3.ensures
