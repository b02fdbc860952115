use Rattle.std.proofs.Common.{string_bytes}
use Rattle.command_words.proofs.Steps.{name_in, word_in}
use Rattle.command_words.proofs.words.+said_by.Goals as goal

pub returns-in_ok-with_name-in-Some-split_flag : goal.returns-in_ok-with_name-in-Some-split_flag
returns-in_ok-with_name-in-Some-split_flag h c =
    name_in string_bytes c.args.words.now c.word-item-2.result c.name-item.result _ _ c.args.said c.in_ok-with_name-in-Some-split_flag.field-0 c.in-Some-split_flag.flag c.args.at _
    c.in-len2-up.len_at_least c.word-item-2.is c.name-item.is c.as_str-in-len2-up.ensures.value c.as_str-in-Some-split_flag.ensures.value c.in-Some-split_flag.ensures c.in_ok-with_name-in-Some-split_flag.ensures.value c.said_by.ensures

pub returns-in_ok-with_word-in-None-split_flag : goal.returns-in_ok-with_word-in-None-split_flag
returns-in_ok-with_word-in-None-split_flag h c =
    word_in string_bytes c.args.words.now c.word-item-2.result c.name-item.result _ _ c.args.said c.in_ok-with_word-in-None-split_flag.field-0 c.args.at _
    c.in-len2-up.len_at_least c.word-item-2.is c.name-item.is c.as_str-in-len2-up.ensures.value c.as_str-in-None-split_flag.ensures.value c.in-None-split_flag.ensures c.in_ok-with_word-in-None-split_flag.ensures.value c.said_by-in-None-split_flag.ensures
