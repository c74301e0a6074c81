use Rattle.std.proofs.Common.{◌≡◌, false, option_map, Option, get_or, vec_items, sym, ap, ◌∙◌}
use Rattle.std.specs.Option.{option_copied}
use Rattle.hash_store.specs.declared.place.Place.{Place}
use Rattle.hash_store.specs.Buckets.{kept_in_bucket}
use Rattle.hash_store.specs.Chains.{no_ends, row_in}
use Rattle.hash_store.specs.Indexed.{chains}
use Rattle.hash_store.proofs.Looking.{from_link, from_head}
use Rattle.hash_store.proofs.index.TableIndex.start.Goals as goal
use Rattle.hash_store.proofs.index.TableIndex.start.Goals.{in_default-via-in-Some+else-has, in_default-via-in_default}

pub returns-in-Some : goal.returns-in-Some
returns-in-Some c =
    let x = c.args.self.now in
    let chain = c.args.chain in
    let read = sym c.place.ensures.value ∙ ap option_copied c.in-Some.is in
    record {
      value = from_link (vec_items x.places) x.ends chain.column chain.bucket (chains x chain.column chain.column_in) c.args.after c.in-Some.p.now read (sym c.has.ensures.value ∙ c.if-has.true);
    }

pub returns-in_default : goal.returns-in_default
returns-in_default c =
    let x = c.args.self.now in
    let chain = c.args.chain in
    let kept = λ (o : Option Place). kept_in_bucket chain.column chain.bucket (option_map row_in o) in
    let out : kept_in_bucket chain.column chain.bucket (option_map row_in (option_copied c.place.result)) ≡ false = elim c.in_default.branch [
      | in_default-via-in-Some+else-has w ↦ ap (λ o. kept (option_copied o)) w.in-Some.is ∙ sym w.has.ensures.value ∙ w.if-has.false
      | in_default-via-in_default w ↦ ap (λ o. kept (option_copied o)) w.in_default.is
    ] in
    record {
      value = ap (λ k. (get_or x.ends k no_ends).head) c.slot.ensures.value
          ∙ from_head (vec_items x.places) x.ends chain.column chain.bucket (chains x chain.column chain.column_in) c.args.after chain.small (sym (ap kept c.place.ensures.value) ∙ out);
    }
