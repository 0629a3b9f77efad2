-- `place::fill`: the data, and the cleared part behind them, are one write of the padded data (`fill_written`).
use Rattle.storage.proofs.RecordWritten.{fill_written}
use Rattle.place_writer.proofs.fill.Goals as goal

pub returns : goal.returns
returns c =
    let d = c.args.d.now in
    let m = c.args.out.now in
    fill_written d m _ _ c.requires.out_len c.requires.d_len_bound c.put.ensures c.clear.ensures
