use Rattle.std.proofs.Common.{◌≡◌, ◌∙◌, ◌++◌, List, ap, map, refl}
use Rattle.std.specs.Option.{option_copied}
use Rattle.gr_db.specs.Changed.{place_of}
use Rattle.gr_db.specs.Wants.{all_added, record_wants, token_wants}
use Rattle.gr_db.specs.declared.want.Added.{Added}
use Rattle.gr_root.specs.Inside.Put.{own_at}
use Rattle.gr_root.specs.Inside.Walk.{IsEnded, IsWalked, db_of}
use Rattle.gr_root.proofs.FitLemmas.{added-readable, record-fits, settings-readable}
use Rattle.gr_root.proofs.PutLemmas.{ended-records, ended-tokens, put-done}
use Rattle.gr_root.proofs.put.put_in.Goals as goal

pub returns-in-Err : goal.returns-in-Err
returns-in-Err c =
    ended-records c.args.limit c.args.schema.now c.args.tables.now c.args.table (option_copied c.args.key) c.args.settings.now c.in-Err.failure c.in-Err.ensures.ended

pub add_tokens-requires-clause-base : goal.add_tokens-requires-clause-base
add_tokens-requires-clause-base c = record {
  sound = c.requires.base.sound;
  formed = c.in_ok-set_all.ensures.formed;
  within = c.in_ok-set_all.ensures.within c.args.limit c.in-Ok.ensures.walked.within;
}

pub add_tokens-requires-clause-texts : goal.add_tokens-requires-clause-texts
add_tokens-requires-clause-texts c = settings-readable c.args.schema.now c.args.table c.args.settings.now c.requires.valid.settings_fit

pub add_tokens-requires-clause-keys : goal.add_tokens-requires-clause-keys
add_tokens-requires-clause-keys c =
    let records = record_wants c.args.schema.now c.args.table (option_copied c.args.key) c.args.settings.now in
    let same : c.as_slice.result.now ≡ all_added (db_of c.args.schema.now c.args.tables.now) records = c.as_slice.ensures.value ∙ c.in-Ok.ensures.walked.added in
    rw same (added-readable c.args.schema.now (db_of c.args.schema.now c.args.tables.now) records (record-fits c.args.schema.now c.args.table (option_copied c.args.key) c.args.settings.now c.requires.valid))

pub returns-in-Err-add_tokens : goal.returns-in-Err-add_tokens
returns-in-Err-add_tokens c =
    let ended : IsEnded c.args.limit c.args.schema.now c.set_all.new.tables (token_wants c.args.schema.now c.args.table c.args.settings.now c.in-Ok.news.items) c.in-Err-add_tokens.failure =
    rw c.as_slice.ensures.value at c.in-Err-add_tokens.ensures.ended in
    ended-tokens c.args.limit c.args.schema.now c.args.tables.now c.add_records.new.tables c.set_all.new.tables c.args.table (option_copied c.args.key) c.args.settings.now c.own_id-own.result c.in-Ok.news.items c.in-Err-add_tokens.failure
    c.in-Ok.ensures.walked c.in_ok-set_all.ensures ended

pub returns : goal.returns
returns c =
    let key = option_copied c.args.key in
    let news = c.in-Ok.news.items in
    let more = c.in-Ok-add_tokens.more.items in
    let walked : IsWalked c.args.limit c.args.schema.now c.set_all.new.tables c.add_tokens.new.tables (token_wants c.args.schema.now c.args.table c.args.settings.now news) more =
    rw c.as_slice.ensures.value at c.in-Ok-add_tokens.ensures.walked in
    let told : c.in_ok-places.field-0 ≡ (map place_of news ++ map place_of more) ++ own_at c.args.table c.own_id-own-2.result c.args.settings.now =
    c.in_ok-places.ensures
    ∙ ap (λ (ns : List Added). (map place_of ns ++ map place_of c.as_slice-3.result.now) ++ own_at c.args.table c.own_id-own-2.result c.args.settings.now) c.as_slice-2.ensures.value
    ∙ ap (λ (ns : List Added). (map place_of news ++ map place_of ns) ++ own_at c.args.table c.own_id-own-2.result c.args.settings.now) c.as_slice-3.ensures.value in
    put-done c.args.limit c.args.schema.now c.args.tables.now c.add_records.new.tables c.set_all.new.tables c.add_tokens.new.tables c.args.table key c.args.settings.now c.own_id-own.result c.own_id-own-2.result news more c.in_ok-places.field-0
    c.in-Ok.ensures.walked (c.own_id-own.ensures (db_of c.args.schema.now c.add_records.new.tables) refl) c.in_ok-set_all.ensures walked (c.own_id-own-2.ensures (db_of c.args.schema.now c.add_tokens.new.tables) refl) told
