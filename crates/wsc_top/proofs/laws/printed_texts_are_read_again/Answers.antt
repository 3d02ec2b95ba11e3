use Rattle.asm_read.specs.Reads.{world_of}
use Rattle.wsc_top.proofs.Reading.ReadAgain.{image_again, input_again, compiled_again, traced_again}
use Rattle.wsc_top.proofs.Reading.ReadAgain.{replayed_again}
use Rattle.wsc_top.proofs.laws.printed_texts_are_read_again.Goals as goal

pub returns-clause-image : goal.returns-clause-image
returns-clause-image c = image_again c.printed_reads_again.ensures
    c.printed_texts_have_no_marker.ensures.bytes c.printed_texts_have_no_marker.ensures.end

pub returns-clause-input : goal.returns-clause-input
returns-clause-input c = input_again c.printed_reads_again.ensures
    c.printed_texts_have_no_marker.ensures.bytes c.printed_texts_have_no_marker.ensures.end

pub returns-clause-compiled : goal.returns-clause-compiled
returns-clause-compiled c = compiled_again c.printed_reads_again.ensures
    c.printed_texts_have_no_marker.ensures.bytes c.printed_texts_have_no_marker.ensures.end

pub returns-clause-traced : goal.returns-clause-traced
returns-clause-traced c = traced_again c.printed_reads_again.ensures
    c.printed_texts_have_no_marker.ensures.bytes c.printed_texts_have_no_marker.ensures.end
    c.read_images_are_formed.ensures c.written_traces_read_again.ensures

pub returns-clause-replayed : goal.returns-clause-replayed
returns-clause-replayed c budget text image input status out is told =
    let formed = c.read_images_are_formed.ensures _ image is.reads in
    replayed_again c.printed_reads_again.ensures c.printed_texts_have_no_marker.ensures.bytes
    c.printed_texts_have_no_marker.ensures.end
    c.read_images_are_formed.ensures c.written_traces_read_again.ensures budget text image input status out is
    told c.breaches_break.ensures
    (c.made_traces_are_replayed.ensures.whole image (world_of input) formed is.sound budget told.events
    told.how told.traces)
    (c.made_traces_are_replayed.ensures.rests image (world_of input) formed is.sound budget told.events)
